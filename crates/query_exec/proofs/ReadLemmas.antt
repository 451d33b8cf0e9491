-- What a run has that was handed the first of the blocks that are needed.
use Rattle.std.proofs.Common.{◌≡◌, ℕ, ◌+◌, Some, None, List, [], ◌++◌, map, drop, take, refl, sym, ap, ◌∙◌, subst, arith, append-nil}
use Rattle.std.specs.Prelude.{option_map, slice_get}
use Rattle.std.proofs.lemmas.List.{drop-drop, get_or_append_left, length-append, take-append-drop}
use Rattle.std.proofs.lemmas.List.Concat.{flat_map-append}
use Rattle.block_summary.specs.Blocks.{block_at}
use Rattle.cell_types.specs.Value.{CellValue}
use Rattle.csvw_meta.specs.Schema.{SchemaOf}
use Rattle.table_store.specs.Block.{block_of}
use Rattle.table_store.specs.Table.{TableOf}
use Rattle.query_plan.specs.Fitting.{NodesFit}
use Rattle.query_meaning.specs.Fitting.{AreTableRows}
use Rattle.query_plan.specs.Laws.{NodesInTurn, ScansReadTableRows}
use Rattle.query_plan.specs.Plan.{PlanOf, leading, needed, node_view, nodes_result, table_result}
use Rattle.query_plan.specs.Scan.{rows_of_blocks, up_to}
use Rattle.block_filter.specs.Conditions.{rows_joined, passing_all, ConditionsInTurn}
use Rattle.query_exec.specs.declared.run.Run.{Run}
use Rattle.query_exec.specs.Answer.{plan_answer}
use Rattle.query_exec.specs.Steps.{without_count}
use Rattle.result_rows.specs.Kept.{kept_names}
use Rattle.result_rows.specs.Selected.{selected_rows}
use Rattle.query_exec.specs.Run.{conditions_of, handed_rows, next_block, passed_answer, passed_rows, places_of, steps_of, wanted_block, HasPassed, HasTakenBlocks, HasTakenIn, IsReady}
use Rattle.query_exec.specs.Sink.{sink_kept, sink_nodes}
use Rattle.query_exec.proofs.NeededLemmas.{all_rows, first_left, more_rows, needed_behind, wanted_is_first}
use Rattle.result_rows.proofs.KeptLemmas.{as_many, still_kept}
use Rattle.query_exec.proofs.ConditionLemmas.{parts_fit, parts_give, selected_joined}

-- ---- the blocks that were handed in

front_rows : (schema : SchemaOf) (front back : List (List CellValue)) → AreTableRows schema (front ++ back) → AreTableRows schema front
front_rows schema front back are = record {
  each = λ k d h. rw (← (get_or_append_left front back d k h)) (are.each k d (omega (arith, length-append front back)));
  count = omega (arith, length-append front back, are.count);
}

-- the rows of all blocks that are needed
abbrev pub read_rows : PlanOf → TableOf → List (List CellValue)
read_rows plan table = rows_of_blocks table.rows (needed plan table.rows)

pub handed_parts : (plan : PlanOf) (table : TableOf) (handed : ℕ)
    → read_rows plan table ≡ handed_rows plan table handed ++ rows_of_blocks table.rows (drop handed (needed plan table.rows))
handed_parts plan table handed =
    let blocks = needed plan table.rows in
    ap (rows_of_blocks table.rows) (sym (take-append-drop handed blocks)) ∙ flat_map-append (block_at table.rows) (take handed blocks) (drop handed blocks)

-- the rows of the first `handed` blocks that are needed are rows of a table
pub handed_are_rows : ScansReadTableRows → (plan : PlanOf) (table : TableOf) (handed : ℕ) → AreTableRows table.schema table.rows
    → AreTableRows table.schema (handed_rows plan table handed)
handed_are_rows scans plan table handed are =
    front_rows table.schema (handed_rows plan table handed) (rows_of_blocks table.rows (drop handed (needed plan table.rows)))
    (subst (AreTableRows table.schema) (handed_parts plan table handed) (scans table.schema plan.scan (leading plan.nodes) table.rows are))

-- the block that the run wants next is the next that is needed
pub wanted_is_next : (run : Run) (plan : PlanOf) (table : TableOf) (blocks : ℕ) → HasTakenBlocks run plan table blocks → wanted_block run ≡ next_block plan table blocks
wanted_is_next run plan table blocks has =
    wanted_is_first run.room (conditions_of run) table.rows run.left.items
    ∙ ap (λ numbers. slice_get numbers 0) has.left_are ∙ first_left (needed plan table.rows) blocks

-- ---- one block more

pub passed_parts : ConditionsInTurn → (run : Run) (front back : List (List CellValue)) → passed_rows run (front ++ back) ≡ rows_joined (passed_rows run front) (passed_rows run back)
passed_parts law run front back =
    let es = conditions_of run in
    ap (option_map (selected_rows (places_of run))) (law.parts es front back) ∙ selected_joined (places_of run) (passing_all es front) (passing_all es back)

-- what passes of the rows before it, and of its own
pub one_block_more : ConditionsInTurn → (run : Run) (plan : PlanOf) (table : TableOf) (handed number : ℕ) → next_block plan table handed ≡ Some number
    → rows_joined (passed_rows run (handed_rows plan table handed)) (passed_rows run (block_of table number).rows) ≡ passed_rows run (handed_rows plan table (handed + 1))
one_block_more law run plan table handed number next =
    sym (passed_parts law run (handed_rows plan table handed) (block_of table number).rows) ∙ ap (passed_rows run) (sym (more_rows plan table handed number next))

pub block_read : ConditionsInTurn → (old new : Run) (plan : PlanOf) (table : TableOf) (handed number : ℕ) → HasTakenBlocks old plan table handed
    → next_block plan table handed ≡ Some number → HasTakenIn old new (block_of table number).rows → HasTakenBlocks new plan table (handed + 1)
block_read law old new plan table handed number has next taken =
    let front = handed_rows plan table handed in
    let first : slice_get (up_to old.room (conditions_of old) table.rows old.left.items) 0 ≡ Some number = rw has.left_are (first_left (needed plan table.rows) handed ∙ next) in
    let whole = handed_rows plan table (handed + 1) in
    let same : passed_rows old whole ≡ passed_rows new whole = rw (taken.conditions, taken.columns.places) refl in
    record {
      plan_is = rw (taken.conditions, taken.columns.places, taken.steps) has.plan_is;
      conditions_are = rw taken.conditions has.conditions_are;
      fits = has.fits;
      are_rows = has.are_rows;
      reads = taken.stage ∙ has.reads;
      left_are =
          rw (taken.conditions, taken.room_is, taken.left_are)
          (needed_behind old.room (conditions_of old) table.rows old.left.items number first ∙ ap (drop 1) has.left_are ∙ drop-drop 1 handed (needed plan table.rows));
      columns = still_kept (sink_kept old.sink) (sink_kept new.sink) table.schema taken.columns has.columns;
      passed = subst (HasPassed new) (one_block_more law old plan table handed number next ∙ same) (taken.passed (passed_rows old front) has.passed);
    }

-- ---- where no block is needed

pub whole_read : (run : Run) (plan : PlanOf) (table : TableOf) (blocks : ℕ) → HasTakenBlocks run plan table blocks → next_block plan table blocks ≡ None
    → HasPassed run (passed_rows run (read_rows plan table))
whole_read run plan table blocks has beyond = rw (all_rows plan table blocks beyond) at has.passed

-- what passes of rows of the table may go through the steps
pub passed_fit : NodesInTurn → (run : Run) (plan : PlanOf) (table : TableOf) (blocks : ℕ) (all rows : List (List CellValue)) → HasTakenBlocks run plan table blocks
    → AreTableRows table.schema all → passed_rows run all ≡ Some rows → NodesFit (steps_of run) (without_count (kept_names (sink_kept run.sink)) rows)
passed_fit law run plan table blocks all rows has are is =
    rw has.columns.names_are
    (parts_fit law (conditions_of run) (places_of run) (steps_of run) (table_result table.schema all) all rows (rw has.plan_is (has.fits all are)) is)

pub is_ready : NodesInTurn → ScansReadTableRows → (run : Run) (plan : PlanOf) (table : TableOf) (blocks : ℕ) → HasTakenBlocks run plan table blocks → wanted_block run ≡ None → IsReady run
is_ready law scans run plan table blocks has beyond = record {
  width = as_many (sink_kept run.sink) table.schema has.columns;
  passed = passed_rows run (read_rows plan table);
  has = whole_read run plan table blocks has (sym (wanted_is_next run plan table blocks has) ∙ beyond);
  fits = λ rows is. passed_fit law run plan table blocks (read_rows plan table) rows has (scans table.schema plan.scan (leading plan.nodes) table.rows has.are_rows) is;
}

-- where no steps are left, the sink does the only one
pub no_steps : (run : Run) → map node_view run.steps.items ≡ [] → steps_of run ≡ sink_nodes run.sink
no_steps run none = rw none (append-nil (sink_nodes run.sink))

-- what the run gives then is the answer of the plan
pub answer_is : (run : Run) (plan : PlanOf) (table : TableOf) (blocks : ℕ) → HasTakenBlocks run plan table blocks
    → plan_answer plan table ≡ passed_answer run (passed_rows run (read_rows plan table))
answer_is run plan table blocks has =
    let es = conditions_of run in
    let picked = places_of run in
    let all = read_rows plan table in
    let r = table_result table.schema all in
    ap (λ ns. nodes_result ns r) (sym has.plan_is) ∙ rw has.columns.names_are (parts_give es picked (steps_of run) r all)
