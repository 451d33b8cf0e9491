use Rattle.std.proofs.Common.{map}
use Rattle.odata_query.specs.Query.{order_view}
use Rattle.query_plan.specs.Plan.{node_view}
use Rattle.result_rows.specs.Kept.{kept_names}
use Rattle.query_exec.proofs.FitLemmas.{after_order, after_piece}
use Rattle.query_exec.proofs.sink.Sink.in_order.Goals as goal

pub take_shown-requires-clause-fit : goal.take_shown-requires-clause-fit
take_shown-requires-clause-fit c =
    let names = kept_names c.args.kept in
    after_piece c.take_slice-slice.result (map node_view c.take_slice-slice.new.steps.items) names
    (rw c.take_slice-slice.ensures at (after_order (map order_view c.args.items.items) c.args.most (map node_view c.args.steps.now.items) names c.requires.fit))
