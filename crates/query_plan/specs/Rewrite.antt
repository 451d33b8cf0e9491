-- What a plan is rewritten to: steps of the same meaning, with less to do.
use Rattle.std.specs.Prelude.{◌≡◌, ℕ, ◌+◌, ◌^◌, Bool, false, List, [], ◌∷◌, Option, Some, None, nat_lt, if◌then◌else◌}
use Rattle.cell_types.specs.Value.{CellValue}
use Rattle.csvw_meta.specs.Schema.{SchemaOf}
use Rattle.query_meaning.specs.Fitting.{AreTableRows}
use Rattle.query_plan.specs.Plan.{NodeOf, PlanOf, choosing, plan_result, slicing, sorting}

-- on the rows of a table the plans have one result, or both have none
abbrev pub MeansTheSame : SchemaOf → PlanOf → PlanOf → Type 0
MeansTheSame schema p q = (rows : List (List CellValue)) → AreTableRows schema rows → plan_result schema q rows ≡ plan_result schema p rows

-- ---- the best rows in the place of a whole sort

-- of how many first rows a piece is: None, where it has no `$top`, or where all rows before it are counted
abbrev pub first_needed : ℕ → Option ℕ → Bool → Option ℕ
first_needed skip (Some top) false = if nat_lt (skip + top) (2 ^ 64) then Some (skip + top) else None
first_needed skip _ _ = None

-- the same, but none of a piece that is empty
abbrev pub room_of : ℕ → Option ℕ → Bool → Option ℕ
room_of skip (Some ℕ.zero) false = Some 0
room_of skip top counts = first_needed skip top counts

abbrev pub rows_needed : NodeOf → Option ℕ
rows_needed (slicing s) = room_of s.skip s.top s.counts
rows_needed n = None

-- a step before one that takes the first rows
abbrev pub chosen : NodeOf → Option ℕ → NodeOf
chosen (sorting items) (Some most) = choosing items most
chosen n most = n

abbrev pub best_nodes : List NodeOf → List NodeOf
best_nodes [] = []
best_nodes (n ∷ []) = n ∷ []
best_nodes (n ∷ m ∷ ns) = chosen n (rows_needed m) ∷ best_nodes (m ∷ ns)

-- ---- the whole

-- few rows of each sort
abbrev pub best_plan : PlanOf → PlanOf
best_plan p = record p { nodes = best_nodes p.nodes }
