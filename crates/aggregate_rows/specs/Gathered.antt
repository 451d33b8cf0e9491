-- The rows of `aggregate` and of `groupby` (OData Data Aggregation 4.0, sections 3.2.1 and 3.2.3), gathered while the rows come of which they are computed.
use Rattle.std.specs.Prelude.{◌≡◌, ◌≢◌, ◌<◌, ◌+◌, ◌++◌, ℕ, true, false, List, [], ◌∷◌, Option, Some, None, IfSome, length, map, option_map, slice_get, slice_index_or, slice_set}
use Rattle.std.specs.List.{All, AllByRecursion, AllZip, list_any}
use Rattle.std.specs.Borrow.{Bor}
use Rattle.cell_types.specs.Value.{CellValue}
use Rattle.odata_query.specs.declared.aggregate.Aggregate.{Aggregate}
use Rattle.odata_query.specs.declared.aggregate.Aggregate.TheVariants.{Count}
use Rattle.odata_query.specs.Aggregate.{NamedAggregateOf}
use Rattle.odata_query.specs.Query.{optional_numbers}
use Rattle.insertion_map.specs.Places.{insert_key}
use Rattle.query_meaning.specs.Apply.{computed_value, computed_values, group_values, rows_of_group, same_values}
use Rattle.aggregate_rows.specs.declared.aggregator.Aggregator.{Aggregator}
use Rattle.aggregate_rows.specs.Groups.{grouped_rows}
use Rattle.aggregate_rows.specs.Table.{key_of_group, shape_of, GroupOf, GroupsOf}
use Rattle.aggregate_rows.specs.Tallies.{aggregates_at, FitsAll, HasResults, MayTallyEach, TalliesEach}

-- one row of aggregates of all rows, or a row for each group of those with the same values in some columns
abbrev pub gathered_rows : Option (List ℕ) → List NamedAggregateOf → List (List CellValue) → List (List CellValue)
gathered_rows None aggregates rows = computed_values aggregates rows ∷ []
gathered_rows (Some places) aggregates rows = grouped_rows places aggregates rows

-- how many columns these have
abbrev pub gathered_width : Option (List ℕ) → List NamedAggregateOf → ℕ
gathered_width None aggregates = length aggregates
gathered_width (Some places) aggregates = length places + length aggregates

-- the values of each group, and the rows of one: all rows are one group of no values
abbrev pub group_keys : Option (List ℕ) → List (List CellValue) → List (List CellValue)
group_keys None rows = [] ∷ []
group_keys (Some places) rows = group_values places rows

abbrev pub part_of : Option (List ℕ) → List (List CellValue) → List CellValue → List (List CellValue)
part_of None rows key = rows
part_of (Some places) rows key = rows_of_group places rows key

-- how many values make a group
abbrev pub key_width : Option (List ℕ) → ℕ
key_width None = 0
key_width (Some places) = length places

-- the values of each group
abbrev pub keys_held : GroupsOf → List (List CellValue)
keys_held groups = map key_of_group groups.groups

-- those are the groups of the rows: their values, and what is computed of the rows of each
pub record HasGroups (places : Option (List ℕ)) (aggregates : List Aggregate) (groups : GroupsOf) (rows : List (List CellValue)) : Type 0 where
  pub shape_is : groups.shape ≡ shape_of (key_width places) aggregates
  pub keys_are : keys_held groups ≡ group_keys places rows
  pub results_are : AllZip (HasResults aggregates) (map (part_of places rows) (group_keys places rows)) groups.groups

-- aggregates without their names
abbrev pub plain_aggregates : List NamedAggregateOf → List Aggregate
plain_aggregates aggregates = map (λ a. a.aggregate) aggregates

-- aggregates of which no two are the same, and where each of some named ones is among them: each is one of the named ones
pub record AreOnce (named : List Aggregate) (once : List Aggregate) (shown : List ℕ) : Type 0 where
  pub are : aggregates_at shown once ≡ named
  pub within : All (λ place. place < length once) shown
  pub differ : (i j : ℕ) → i < j → j < length once → slice_index_or once i Count ≢ slice_index_or once j Count
  pub no_others : (i : ℕ) → i < length once → (j : ℕ) × (j < length named) × (slice_index_or named j Count ≡ slice_index_or once i Count)

-- The rows joined, one after another: for these aggregates, of all of them or of the groups by their values in some columns.
pub record Gathers (aggregator : Aggregator) (places : Option (List ℕ)) (aggregates : List NamedAggregateOf) (rows : List (List CellValue)) : Type 0 where
  pub places_are : optional_numbers aggregator.places ≡ places
  pub aggregates_are : AreOnce (plain_aggregates aggregates) aggregator.aggregates.items aggregator.shown.items
  pub groups_are : HasGroups places aggregator.aggregates.items aggregator.groups rows

-- more rows, of `width` columns, may join: some did, and the aggregates can be computed of all of them
pub record MayJoin (aggregator : Aggregator) (width : ℕ) (more : List (List CellValue)) : Type 0 where
  pub places : Option (List ℕ)
  pub aggregates : List NamedAggregateOf
  pub rows : List (List CellValue)
  pub gathers : Gathers aggregator places aggregates rows
  pub within : IfSome places (All (λ place. place < width))
  pub fits : All (λ a. FitsAll width (rows ++ more) a.aggregate) aggregates

-- these joined after those that did
abbrev pub Adjoins : Aggregator → Aggregator → List (List CellValue) → Type 0
Adjoins old new more = (places : Option (List ℕ)) (aggregates : List NamedAggregateOf) (rows : List (List CellValue)) → Gathers old places aggregates rows
    → Gathers new places aggregates (rows ++ more)

-- that many columns, and these rows, are what is gathered of all rows that joined
abbrev pub HasGatheredWidth : Aggregator → ℕ → Type 0
HasGatheredWidth aggregator width = (places : Option (List ℕ)) (aggregates : List NamedAggregateOf) (rows : List (List CellValue)) → Gathers aggregator places aggregates rows
    → width ≡ gathered_width places aggregates

abbrev pub HasGatheredRows : Aggregator → List (List CellValue) → Type 0
HasGatheredRows aggregator made = (places : Option (List ℕ)) (aggregates : List NamedAggregateOf) (rows : List (List CellValue)) → Gathers aggregator places aggregates rows
    → made ≡ gathered_rows places aggregates rows

-- that many groups there are of the rows that joined: all rows are one
abbrev pub HasGroupCount : Aggregator → ℕ → Type 0
HasGroupCount aggregator count = (places : Option (List ℕ)) (aggregates : List NamedAggregateOf) (rows : List (List CellValue)) → Gathers aggregator places aggregates rows
    → count ≡ length (group_keys places rows)

-- places that are lent, if so
abbrev pub lent_places : Option (Bor (List ℕ)) → Option (List ℕ)
lent_places places = option_map (λ p. p.now) places

-- ---- inside

pub record MayJoinGroups (places : Option (List ℕ)) (aggregates : List Aggregate) (width : ℕ) (old : GroupsOf) (more : List (List CellValue)) : Type 0 where
  pub rows : List (List CellValue)
  pub has : HasGroups places aggregates old rows
  pub fits : AllByRecursion (FitsAll width (rows ++ more)) aggregates

abbrev pub JoinsGroups : Option (List ℕ) → List Aggregate → GroupsOf → GroupsOf → List (List CellValue) → Type 0
JoinsGroups places aggregates old new more = (rows : List (List CellValue)) → HasGroups places aggregates old rows → HasGroups places aggregates new (rows ++ more)

-- more rows may join those of the group at a place
pub record MayJoinGroup (aggregates : List Aggregate) (groups : GroupsOf) (place width : ℕ) (more : List (List CellValue)) : Type 0 where
  pub group : GroupOf
  pub there : slice_get groups.groups place ≡ Some group
  pub may : MayTallyEach aggregates width group more

-- and these joined: its key stays, and so do the others
pub record JoinsGroup (aggregates : List Aggregate) (old new : GroupsOf) (place : ℕ) (more : List (List CellValue)) : Type 0 where
  pub group : GroupOf
  pub there : slice_get old.groups place ≡ Some group
  pub made : GroupOf
  pub key : made.key ≡ group.key
  pub joins : TalliesEach aggregates group made more
  pub shape : new.shape ≡ old.shape
  pub groups : new.groups ≡ slice_set old.groups place made

-- that is the group of these values
abbrev pub IsGroupOf : GroupsOf → List CellValue → ℕ → Type 0
IsGroupOf groups key group = (group < length (keys_held groups)) × (slice_index_or (keys_held groups) group [] ≡ key)

-- a group of no rows came after the others, with that key
pub record IsPushed (aggregates : List Aggregate) (key : List CellValue) (old new : List GroupOf) : Type 0 where
  pub made : GroupOf
  pub key_is : made.key ≡ key
  pub begins : HasResults aggregates [] made
  pub groups : new ≡ old ++ made ∷ []

-- the group of a key is one of those that there were, or a new one of no rows, after the others
pub record HasGroupMore (aggregates : List Aggregate) (old new : GroupsOf) (key : List CellValue) : Type 0 where
  pub shape : new.shape ≡ old.shape
  pub keys : keys_held new ≡ insert_key same_values (keys_held old) key
  pub stay : list_any (same_values key) (keys_held old) ≡ true → new.groups ≡ old.groups
  pub begins : list_any (same_values key) (keys_held old) ≡ false
      → (made : GroupOf) × HasResults aggregates [] made × (new.groups ≡ old.groups ++ made ∷ [])

-- for each group its values and what is computed of its rows
abbrev pub rows_gathered : Option (List ℕ) → List Aggregate → List (List CellValue) → List (List CellValue)
rows_gathered places aggregates rows = map (λ key. key ++ map (computed_value (part_of places rows key)) aggregates) (group_keys places rows)

-- the groups are those of some rows, and these places are among the aggregates
abbrev pub HaveShown : GroupsOf → List ℕ → Type 0
HaveShown groups shown =
    (places : Option (List ℕ)) × (aggregates : List Aggregate) × (rows : List (List CellValue)) × HasGroups places aggregates groups rows × All (λ place. place < length aggregates) shown

-- those rows are made of the groups of any rows, by the aggregates at places
abbrev pub MakesRows : GroupsOf → List ℕ → List (List CellValue) → Type 0
MakesRows groups shown made = (places : Option (List ℕ)) (aggregates : List Aggregate) (rows : List (List CellValue)) → HasGroups places aggregates groups rows
    → made ≡ rows_gathered places (aggregates_at shown aggregates) rows
