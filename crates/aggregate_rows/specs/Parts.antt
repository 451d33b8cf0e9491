-- Rows by their groups, while they join.
use Rattle.std.specs.Prelude.{◌≡◌, ◌+◌, ◌++◌, ℕ, nat_eq, List, [], ◌∷◌, Some, Vec, length, map, if◌then◌else◌}
use Rattle.std.specs.Global.{Global}
use Rattle.std.specs.List.{AllByRecursion, AllZip}
use Rattle.cell_types.specs.Value.{CellValue}
use Rattle.odata_query.specs.declared.aggregate.Aggregate.{Aggregate}
use Rattle.query_meaning.specs.Apply.{group_values, rows_of_group, values_at}
use Rattle.row_columns.specs.Picked.{numbered}
use Rattle.aggregate_rows.specs.Gathered.{keys_held, HasGroups, IsGroupOf}
use Rattle.aggregate_rows.specs.Table.{shape_of, GroupsOf}
use Rattle.aggregate_rows.specs.Tallies.{FitsAll, HasResults}

-- those are the groups of rows and of more, of which the first joined
pub record AreBegun (places : List ℕ) (aggregates : List Aggregate) (groups : GroupsOf) (rows more : List (List CellValue)) : Type 0 where
  pub shape_is : groups.shape ≡ shape_of (length places) aggregates
  pub keys_are : keys_held groups ≡ group_values places (rows ++ more)
  pub results_are : AllZip (HasResults aggregates) (map (rows_of_group places rows) (group_values places (rows ++ more))) groups.groups

-- the groups of more rows are there, which did not join yet
abbrev pub BeginsGroups : List ℕ → List Aggregate → GroupsOf → GroupsOf → List (List CellValue) → Type 0
BeginsGroups places aggregates old new more = (rows : List (List CellValue)) → HasGroups (Some places) aggregates old rows → AreBegun places aggregates new rows more

-- each row has its group
abbrev pub AreGroupsOf : GroupsOf → List ℕ → List (List CellValue) → List ℕ → Type 0
AreGroupsOf groups places rows found = AllZip (λ row group. IsGroupOf groups (values_at places row) group) rows found

-- the numbers of those rows that have a group, in order
abbrev pub numbers_of_group : ℕ → List ℕ → List ℕ → List ℕ
numbers_of_group group (n ∷ ns) (g ∷ gs) = if nat_eq g group then n ∷ numbers_of_group group ns gs else numbers_of_group group ns gs
numbers_of_group group _ _ = []

-- of one group, the next one, and so on
abbrev pub ArePartsFrom : ℕ → List ℕ → List ℕ → List (Vec ℕ Global) → Type 0
ArePartsFrom group numbers groups [] = Unit {0}
ArePartsFrom group numbers groups (part ∷ parts) = (part.items ≡ numbers_of_group group numbers groups) × ArePartsFrom (group + 1) numbers groups parts

-- what joins the rows of each group, of which there were some before
abbrev pub ArePartRows : List (List CellValue) → (List CellValue → List (List CellValue)) → List (List CellValue) → List (Vec ℕ Global) → Type 0
ArePartRows rows more keys parts = AllZip (λ key part. numbered part.items rows ≡ more key) keys parts

abbrev pub HaveJoined : List Aggregate → (List CellValue → List (List CellValue)) → List (List CellValue) → GroupsOf → Type 0
HaveJoined aggregates rows keys groups = AllZip (λ key group. HasResults aggregates (rows key) group) keys groups.groups

pub record MayJoinParts (aggregates : List Aggregate) (width : ℕ) (old : GroupsOf) (rows : List (List CellValue)) (parts : List (Vec ℕ Global)) : Type 0 where
  pub keys : List (List CellValue)
  pub before : List CellValue → List (List CellValue)
  pub more : List CellValue → List (List CellValue)
  pub have : HaveJoined aggregates before keys old
  pub parts_are : ArePartRows rows more keys parts
  pub fits : AllByRecursion (λ key. AllByRecursion (FitsAll width (before key ++ more key)) aggregates) keys

abbrev pub JoinsParts : List Aggregate → GroupsOf → GroupsOf → List (List CellValue) → List (Vec ℕ Global) → Type 0
JoinsParts aggregates old new rows parts = (keys : List (List CellValue)) (before more : List CellValue → List (List CellValue))
    → HaveJoined aggregates before keys old → ArePartRows rows more keys parts → HaveJoined aggregates (λ key. before key ++ more key) keys new
