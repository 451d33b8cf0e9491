use Rattle.std.proofs.Common.{arith, length, map, refl, sym}
use Rattle.std.proofs.Math.Nat.{le-max_left}
use Rattle.csvw_meta.specs.Schema.{schema_view}
use Rattle.odata_query.specs.Query.{optional_numbers}
use Rattle.typed_trees.specs.TypedTree.{boxed_truth}
use Rattle.query_plan.specs.Plan.{needed, node_view, plan_view}
use Rattle.result_rows.specs.Kept.{kept_places}
use Rattle.query_exec.specs.Sink.{sink_kept}
use Rattle.result_rows.proofs.KeptLemmas.{as_many}
use Rattle.query_exec.proofs.AdmittedLemmas.{admitted_are}
use Rattle.query_exec.proofs.ConditionLemmas.{selected_none}
use Rattle.query_exec.proofs.FitLemmas.{are_rows, places_within, steps_fit}
use Rattle.query_exec.proofs.run.Run.start.Goals as goal

pub new-requires : goal.new-requires
new-requires c =
    let parts = c.in_ok-conditions.field-0 in
    places_within c.nodes_in_turn.ensures c.conditions_in_turn.ensures (map boxed_truth parts.conditions.items) (optional_numbers parts.places) (map node_view parts.steps.items)
    (schema_view c.args.schema.now) (plan_view c.args.plan) (sym c.in_ok-conditions.ensures.parts) c.requires

pub of-requires-clause-width : goal.of-requires-clause-width
of-requires-clause-width c = as_many c.in_ok-kept.kept (schema_view c.args.schema.now) c.in_ok-kept.ensures.columns

pub of-requires-clause-fit : goal.of-requires-clause-fit
of-requires-clause-fit c =
    let parts = c.in_ok-conditions.field-0 in
    rw (c.in_ok-kept.ensures.columns.names_are, c.in_ok-kept.ensures.places)
    (steps_fit c.nodes_in_turn.ensures c.conditions_in_turn.ensures (map boxed_truth parts.conditions.items) (optional_numbers parts.places) (map node_view parts.steps.items)
    (schema_view c.args.schema.now) (plan_view c.args.plan) (sym c.in_ok-conditions.ensures.parts) c.requires)

pub returns-clause-stands : goal.returns-clause-stands
returns-clause-stands c = λ table schema rows summaries.
    let parts = c.in_ok-conditions in
    let sink = c.in_ok-sink in
    let none = c.conditions_in_turn.ensures.none (map boxed_truth parts.field-0.conditions.items) in
    record {
      read = record {
        plan_is = rw (sink.ensures.kept, c.in_ok-kept.ensures.places, sink.ensures.nodes) (sym parts.ensures.parts);
        conditions_are = parts.ensures.conditions;
        fits = rw schema c.requires;
        are_rows = are_rows table rows;
        reads = refl;
        left_are = rw (← parts.ensures.conditions, c.in_ok-left.ensures, c.deref.ensures.value)
            (rw (admitted_are c.one_range.ensures (plan_view c.args.plan).scan.tests table c.args.summaries.now rows summaries) refl);
        columns = rw (sink.ensures.kept, schema) c.in_ok-kept.ensures.columns;
        passed = record { faulted = rw none refl; pushed = rw (none, selected_none (kept_places (sink_kept sink.sink))) sink.ensures.none };
      };
      goes_on = omega (arith, le-max_left 1 (length (needed (plan_view c.args.plan) table.rows)));
    }
