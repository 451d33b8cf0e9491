-- What holds of scans, plans and what they give.
use Rattle.std.specs.Prelude.{Ok, ◌≡◌, ℕ, ◌^◌, ◌<◌, ◌≤◌, ◌↔◌, ◌++◌, true, false, count_by, filter, List, [], ◌∷◌, Some, None, length, option_and_then}
use Rattle.std.specs.List.{All, Contains}
use Rattle.block_summary.specs.Blocks.{block_count}
use Rattle.cell_types.specs.Value.{CellValue}
use Rattle.csvw_meta.specs.Schema.{SchemaOf}
use Rattle.odata_parse.specs.Tree.{TransformationOf}
use Rattle.odata_types.specs.Columns.{InputOf}
use Rattle.typed_trees.specs.TypedTree.{TruthExprOf}
use Rattle.row_eval.specs.declared.truth.Truth.TheVariants.{True}
use Rattle.odata_query.specs.Aggregate.{TypedTransformationOf}
use Rattle.odata_query.specs.Query.{TypedOf}
use Rattle.odata_query.specs.Apply.{apply_typing}
use Rattle.odata_types.specs.Schema.{inputs_of}
use Rattle.odata_types.specs.Input.{IsInput, IsTableRow}
use Rattle.row_eval.specs.Outcome.{truth_outcome}
use Rattle.query_meaning.specs.Apply.{applied}
use Rattle.query_plan.specs.Fitting.{IsFitFor, NodesFit}
use Rattle.query_meaning.specs.Fitting.{AreRowsOf, AreTableRows, IsTypedFor}
use Rattle.query_meaning.specs.Meaning.{ResultOf}
use Rattle.query_plan.specs.Needed.{needed_blocks}
use Rattle.query_plan.specs.Plan.{NodeOf, PlanOf, naive_plan, needed, nodes_result}
use Rattle.query_plan.specs.Push.{rewritten}
use Rattle.query_plan.specs.Scan.{ScanOf, TestOf, admits_all, admitted_blocks, bare, block_numbers, passes_test, passes_tests, read_blocks, rows_of_blocks}
use Rattle.query_meaning.specs.Filter.{passes_each}
use Rattle.query_plan.specs.Tests.{test_of}
use Rattle.query_plan.specs.Types.{IsTruthOver, IsTypedPlan}

-- A bare scan reads the blocks of all numbers, whose rows are all rows.
pub record BareScansReadAll : Type 0 where
  pub blocks : (conditions : List TruthExprOf) (rows : List (List CellValue)) → read_blocks bare conditions rows ≡ block_numbers rows
  pub rows : (rows : List (List CellValue)) → rows_of_blocks rows (block_numbers rows) ≡ rows

-- What a scan reads of the rows of a table are rows of a table.
abbrev pub ScansReadTableRows : Type 0
ScansReadTableRows = (schema : SchemaOf) (scan : ScanOf) (conditions : List TruthExprOf) (rows : List (List CellValue)) → AreTableRows schema rows
    → AreTableRows schema (rows_of_blocks rows (read_blocks scan conditions rows))

-- Rows whose summary does not admit all tests have none that passes them all.
abbrev pub UnadmittedBlocksPassNone : Type 0
UnadmittedBlocksPassNone = (tests : List TestOf) (rows : List (List CellValue)) → admits_all tests rows ≡ false → filter (passes_tests tests) rows ≡ []

-- A row of a table on which a condition is true passes the test that the condition is, where it compares a column as what that is.
abbrev pub TestsArePassed : Type 0
TestsArePassed = (schema : SchemaOf) (row : List CellValue) (e : TruthExprOf) (t : TestOf) → IsTableRow schema.columns row → IsTruthOver (inputs_of schema) e
    → test_of e ≡ Some t → truth_outcome e row ≡ Some True → passes_test row t ≡ true

-- The filters that the plan of a query begins with do so, where the query was typed for the table.
abbrev pub QueriesAreTyped : Type 0
QueriesAreTyped = (schema : SchemaOf) (q : TypedOf) → IsTypedFor schema q → IsTypedPlan schema (naive_plan q)

-- Steps above others are given what those below give, and none below is none above. Steps fit where those below do, and those above on what is given them.
pub record NodesInTurn : Type 0 where
  pub empty : (r : ResultOf) → nodes_result [] r ≡ Some r
  pub turn : (below above : List NodeOf) (r : ResultOf) → nodes_result (below ++ above) r ≡ option_and_then (nodes_result above) (nodes_result below r)
  pub below_fit : (below above : List NodeOf) (r : ResultOf) → NodesFit (below ++ above) r → NodesFit below r
  pub above_fit : (below above : List NodeOf) (r made : ResultOf) → NodesFit (below ++ above) r → nodes_result below r ≡ Some made → NodesFit above made
  pub both_fit : (below above : List NodeOf) (r : ResultOf) → NodesFit below r
      → ((made : ResultOf) → nodes_result below r ≡ Some made → NodesFit above made) → NodesFit (below ++ above) r

-- Where the numbers of an input's columns are not too large, those of a result of `$apply` are not.
abbrev pub ResultsAreInputs : Type 0
ResultsAreInputs = (inputs outputs : List InputOf) (ts : List TransformationOf) (made : List TypedTransformationOf) → IsInput inputs
    → apply_typing inputs ts ≡ Ok (made, outputs) → IsInput outputs

-- Of the rows of an input, no more than 2 to the 30, `$apply` gives no more than that, and each is a row of the columns that it has by its types.
abbrev pub ResultsAreRows : Type 0
ResultsAreRows = (inputs outputs : List InputOf) (ts : List TransformationOf) (made : List TypedTransformationOf) (rows given : List (List CellValue))
    → apply_typing inputs ts ≡ Ok (made, outputs) → AreRowsOf inputs rows → applied made rows ≡ Some given → AreRowsOf outputs given

-- A query that was typed for a table has a plan of which each step fits the rows that come to it.
abbrev pub QueriesFit : Type 0
QueriesFit = (schema : SchemaOf) (q : TypedOf) → IsTypedFor schema q → IsFitFor schema (naive_plan q)

-- Of a table of fewer than 2 to the 64 rows the plan of a query, rewritten, needs the blocks that the query needs.
abbrev pub NeededBlocksAreRead : Type 0
NeededBlocksAreRead = (q : TypedOf) (rows : List (List CellValue)) → length rows < 2 ^ 64 → needed (rewritten (naive_plan q)) rows ≡ needed_blocks q rows

-- Of the blocks that its tests admit a scan reads a front, in order: all of them where it has no stop. Else a block is read just where fewer rows than
-- its stop pass the conditions in the admitted blocks before that one: so none after the block of the row that is number `stop` among those that pass,
-- counted from 1.
pub record BlocksUpToTheStop : Type 0 where
  pub front : (scan : ScanOf) (conditions : List TruthExprOf) (rows : List (List CellValue))
      → (left : List ℕ) × (admitted_blocks scan.tests rows ≡ read_blocks scan conditions rows ++ left)
  pub every : (tests : List TestOf) (conditions : List TruthExprOf) (rows : List (List CellValue))
      → read_blocks (record { tests = tests; stop = None }) conditions rows ≡ admitted_blocks tests rows
  pub reached : (tests : List TestOf) (stop : ℕ) (conditions : List TruthExprOf) (rows : List (List CellValue)) (before : List ℕ) (number : ℕ) (behind : List ℕ)
      → admitted_blocks tests rows ≡ before ++ number ∷ behind
      → Contains (read_blocks (record { tests = tests; stop = Some stop }) conditions rows) number
      ↔ (count_by (passes_each conditions) (rows_of_blocks rows before) < stop)

-- What a plan needs are blocks of the table, and no more than it has.
pub record PlansNeedBlocks : Type 0 where
  pub each : (plan : PlanOf) (rows : List (List CellValue)) → All (λ number. number < block_count (length rows)) (needed plan rows)
  pub few : (plan : PlanOf) (rows : List (List CellValue)) → length (needed plan rows) ≤ block_count (length rows)
