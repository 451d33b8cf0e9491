-- Items of an order that divide by zero.
use Rattle.std.proofs.Common.{◌≡◌, ◌∷◌, ◌++◌, ℕ, false, List, Option, Some, None, map, refl, ap, ◌∙◌}
use Rattle.std.specs.Prelude.{IsErrAnd, Result, Err, option_to_list}
use Rattle.cell_types.specs.Value.{CellValue}
use Rattle.row_eval.specs.declared.fault.EvalFault.{EvalFault}
use Rattle.row_eval.specs.declared.fault.EvalFault.TheVariants.{DivisionByZero, NoMemory}
use Rattle.query_meaning.specs.Order.{Item, ordered}
use Rattle.query_plan.specs.Laws.{NodesInTurn}
use Rattle.query_plan.specs.Plan.{NodeOf, node_view, nodes_result, select_nodes, slice_view, slicing, sorting}
use Rattle.query_plan.specs.Rewrite.{chosen}
use Rattle.sort_rows.specs.Runs.{FinishesOrder, HasInRuns}
use Rattle.result_rows.specs.Kept.{kept_names, shown_places}
use Rattle.result_rows.specs.Rows.{OrderedOf}
use Rattle.query_exec.specs.declared.fault.ExecFault.{ExecFault}
use Rattle.query_exec.specs.declared.run.Run.{Run}
use Rattle.query_exec.specs.declared.sink.Sink.TheVariants as sink
use Rattle.query_exec.specs.declared.sorted.SortedSink.{SortedSink}
use Rattle.query_exec.specs.Fault.{exec_fault}
use Rattle.query_exec.specs.Run.{passed_answer, wanted_block, RunGoesOn}
use Rattle.query_exec.specs.Sink.{sink_kept, sink_nodes, sorted_items, SinkFinishes}
use Rattle.query_exec.specs.Steps.{without_count}
use Rattle.query_exec.proofs.RunLemmas.{fault_on, some_passed}

-- an item divides by zero
none_made : (items : List Item) (most : Option ℕ) (nodes : List NodeOf) (names : List (List ℕ)) (rows : List (List CellValue)) → ordered items rows ≡ None
    → nodes_result (chosen (sorting items) most ∷ nodes) (without_count names rows) ≡ None
none_made items None nodes names rows is = rw is refl
none_made items (Some most) nodes names rows is = rw is refl

pub sorted_faults : (s : SortedSink) (fault : EvalFault) → ((items : List Item) → HasInRuns items s.runs s.kept.columns.rows → FinishesOrder items s.kept.columns.rows (Err fault))
    → SinkFinishes (sink.Sorted s) (Err fault)
sorted_faults s DivisionByZero given = λ rows has.
    none_made (sorted_items s) s.most (map (λ p. slicing (slice_view p)) (option_to_list s.slice) ++ select_nodes (shown_places s.shown)) (kept_names s.kept) rows (rw has.rows_are at (given (sorted_items s) has.runs_are))
sorted_faults s NoMemory given = tt

-- a fault of the sink too
pub sink_goes_on : (run : Run) (new : Run) (fault : EvalFault) (result : Result (Option OrderedOf) ExecFault) → run.faulted ≡ false → NodesInTurn → wanted_block run ≡ None
    → SinkFinishes run.sink (Err fault) → IsErrAnd result (λ made. made ≡ exec_fault fault) → RunGoesOn run new result
sink_goes_on run new fault result works turn beyond none is =
    fault_on run new fault result beyond
    (λ e passed has.
    let some = some_passed run passed has works in
    let gives = rw e at none in
    ap (passed_answer run) some.1 ∙ turn.turn (sink_nodes run.sink) (map node_view run.steps.items) (without_count (kept_names (sink_kept run.sink)) some.0)
    ∙ rw (gives some.0 some.2) refl) is
