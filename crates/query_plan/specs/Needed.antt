-- The blocks that a query needs: those that its filters and its `$top` do not rule out.
use Rattle.std.specs.Prelude.{ℕ, ◌+◌, ◌==◌, ◌&&◌, not, Bool, true, false, List, [], ◌∷◌, Option, Some, None, if◌then◌else◌, length, option_map}
use Rattle.std.specs.List.{filter_map, flat_map, list_all, list_any}
use Rattle.cell_types.specs.Value.{CellValue}
use Rattle.typed_trees.specs.CanFault.{truth_can_fault}
use Rattle.typed_trees.specs.TypedTree.{TruthExprOf}
use Rattle.odata_query.specs.Aggregate.{TypedTransformationOf, filter_rows}
use Rattle.odata_query.specs.Query.{TypedOf}
use Rattle.query_plan.specs.Push.{conjuncts}
use Rattle.query_plan.specs.Scan.{TestOf, admitted_blocks, up_to}
use Rattle.query_plan.specs.Tests.{test_of}

-- the conditions on rows of the table: those of `$apply` before any `groupby` or `aggregate`, and that of `$filter` where `$apply` has neither
abbrev pub conditions_before : List TypedTransformationOf → Option TruthExprOf → List TruthExprOf
conditions_before [] None = []
conditions_before [] (Some e) = e ∷ []
conditions_before (filter_rows e ∷ ts) filter = e ∷ conditions_before ts filter
conditions_before (t ∷ ts) filter = []

abbrev pub row_conditions : TypedOf → List TruthExprOf
row_conditions q = conditions_before q.apply q.filter

-- some of them may divide by zero
abbrev pub conditions_can_fault : TypedOf → Bool
conditions_can_fault q = list_any truth_can_fault (row_conditions q)

-- their conjuncts that compare a column with a literal; none, where some may divide by zero
abbrev pub pushed_tests : TypedOf → List TestOf
pushed_tests q = if conditions_can_fault q then [] else filter_map test_of (flat_map conjuncts (row_conditions q))

abbrev pub is_filter : TypedTransformationOf → Bool
is_filter (filter_rows e) = true
is_filter t = false

-- the result is rows of the table, in their order, and no count is asked for
abbrev pub gives_first_rows : TypedOf → Bool
gives_first_rows q = not q.counting && not q.count && (length q.order == 0) && list_all is_filter q.apply

-- `$skip` plus `$top`; of `$top=0` no row
abbrev pub last_row : ℕ → ℕ → ℕ
last_row skip ℕ.zero = 0
last_row skip top = skip + top

-- after which of the rows on which the conditions are true, counted from 1, no row is asked for
abbrev pub query_stop : TypedOf → Option ℕ
query_stop q = if gives_first_rows q && not (conditions_can_fault q) then option_map (last_row q.skip) q.top else None

-- the blocks whose summaries admit the tests, no further than the block of that row
abbrev pub needed_blocks : TypedOf → List (List CellValue) → List ℕ
needed_blocks q rows = up_to (query_stop q) (row_conditions q) rows (admitted_blocks (pushed_tests q) rows)
