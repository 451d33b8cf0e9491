-- Groups, each with what is kept of it.
use Rattle.std.specs.Prelude.{◌≡◌, ◌+◌, ◌++◌, ℕ, List, [], ◌∷◌, Option, Some, None, drop, length, take}
use Rattle.std.specs.List.{filter_map}
use Rattle.cell_types.specs.Value.{CellValue, value_view}
use Rattle.cell_types.specs.declared.value.Value.{Value}
use Rattle.cell_types.specs.Rows.{values_at}
use Rattle.odata_query.specs.declared.aggregate.Aggregate.{Aggregate}
use Rattle.aggregate_rows.specs.declared.distinct.Distinct.{Distinct}
use Rattle.aggregate_rows.specs.Distinct.{distinct_place}

-- the values of its key, what is computed of its rows, and the distinct values of some columns
pub record GroupOf : Type 0 where
  pub key : List CellValue
  pub results : List CellValue
  pub sets : List Distinct

-- the values of a group's key
abbrev pub key_of_group : GroupOf → List CellValue
key_of_group group = group.key

-- and after it its results at places
abbrev pub shown_in : List ℕ → GroupOf → List CellValue
shown_in shown group = group.key ++ values_at shown group.results

-- how many of each a group has
pub record ShapeOf : Type 0 where
  pub key : ℕ
  pub results : ℕ
  pub sets : ℕ

pub record GroupsOf : Type 0 where
  pub shape : ShapeOf
  pub groups : List GroupOf

-- the shape of groups by that many values
abbrev pub shape_of : ℕ → List Aggregate → ShapeOf
shape_of key aggregates = record { key = key; results = length aggregates; sets = length (filter_map distinct_place aggregates) }

-- as many values from a place on
abbrev pub cut_values : ℕ → ℕ → List CellValue → List CellValue
cut_values from count values = take count (drop from values)

-- only these may have changed
pub record IsPartPut (from count : ℕ) (old new : List CellValue) : Type 0 where
  pub long : length new ≡ length old
  pub is : new ≡ take from old ++ (cut_values from count new ++ drop (from + count) old)

-- a value, or what stays if there is none
abbrev pub value_or : Option Value → CellValue → CellValue
value_or (Some value) old = value_view value
value_or None old = old

-- what is computed of the rows of a group, by itself
abbrev pub results_of : List CellValue → List Distinct → GroupOf
results_of results sets = record { key = []; results = results; sets = sets }

-- and of a group whose results are the values from a place on
abbrev pub results_from : ℕ → List Aggregate → List CellValue → List Distinct → GroupOf
results_from from aggregates values sets = results_of (cut_values from (length aggregates) values) sets

abbrev pub IsShaped : GroupsOf → List ℕ → List Aggregate → Type 0
IsShaped groups places aggregates = groups.shape ≡ shape_of (length places) aggregates

-- a group by its values, of which the first are its key
abbrev pub group_of : ℕ → List CellValue → List Distinct → GroupOf
group_of key values sets = record { key = take key values; results = drop key values; sets = sets }

-- and so each of some groups
abbrev pub groups_of : ℕ → List (List CellValue) → List (List Distinct) → List GroupOf
groups_of key (values ∷ rows) (sets ∷ more) = group_of key values sets ∷ groups_of key rows more
groups_of key _ _ = []
