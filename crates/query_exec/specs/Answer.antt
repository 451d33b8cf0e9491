-- The answer of a plan on a table (OData 4.01 Part 2, URL Conventions, section 5.1).
use Rattle.std.specs.Prelude.{◌≡◌, ◌++◌, Bool, true, false, List, [], ◌∷◌, Option, Some, if◌then◌else◌}
use Rattle.table_store.specs.Table.{TableOf}
use Rattle.query_plan.specs.Plan.{NodeOf, PlanOf, needed, nodes_result, plan_result, projecting, sorting, table_result}
use Rattle.query_plan.specs.Scan.{rows_of_blocks}
use Rattle.result_rows.specs.Rows.{AreReordered, RowsOf}

-- None is a division by zero
abbrev pub plan_answer : PlanOf → TableOf → Option RowsOf
plan_answer plan table = plan_result table.schema plan table.rows

-- no step does more than select columns
abbrev pub only_select : List NodeOf → Bool
only_select [] = true
only_select (projecting places ∷ nodes) = only_select nodes
only_select (node ∷ nodes) = false

-- a step, unless it is an order
abbrev pub unless_order : NodeOf → List NodeOf
unless_order (sorting items) = []
unless_order node = node ∷ []

-- steps without an order at their end, or before columns are selected there
abbrev pub before_order : List NodeOf → List NodeOf
before_order [] = []
before_order (node ∷ nodes) = if only_select nodes then unless_order node ++ nodes else node ∷ before_order nodes

-- the answer without such an order: its rows as they come
abbrev pub unordered_answer : PlanOf → TableOf → Option RowsOf
unordered_answer plan table = nodes_result (before_order plan.nodes) (table_result table.schema (rows_of_blocks table.rows (needed plan table.rows)))

-- such an order moves rows, and does nothing else
abbrev pub OrdersMoveRows : Type 0
OrdersMoveRows =
    (plan : PlanOf) (table : TableOf) (rows : RowsOf) → plan_answer plan table ≡ Some rows
    → (before : RowsOf) × (unordered_answer plan table ≡ Some before) × AreReordered before rows
