use Rattle.std.proofs.Common.{map, subst, sym}
use Rattle.odata_query.specs.Query.{query_typed_view}
use Rattle.query_plan.specs.Fitting.{IsFitFor}
use Rattle.query_plan.specs.Plan.{MeansQuery, PlanOf, naive_plan, node_view}
use Rattle.query_plan.specs.Scan.{scan_view}
use Rattle.query_plan.specs.Types.{IsTypedPlan}
use Rattle.query_plan.proofs.MeaningLemmas.{means, plan_is}
use Rattle.query_plan.proofs.plan.naive.Goals as goal

pub returns-clause-means : goal.returns-clause-means
returns-clause-means c =
    let q = query_typed_view c.args.query in
    let same = plan_is (scan_view c.bare.result) (map node_view c.in_ok-nodes.nodes.items) (naive_plan q) c.bare.ensures c.in_ok-nodes.ensures in
    subst (λ (plan : PlanOf). MeansQuery plan q) (sym same) (means q c.requires)

pub returns-clause-fits : goal.returns-clause-fits
returns-clause-fits c =
    let q = query_typed_view c.args.query in
    let same = plan_is (scan_view c.bare.result) (map node_view c.in_ok-nodes.nodes.items) (naive_plan q) c.bare.ensures c.in_ok-nodes.ensures in
    λ schema typed. subst (IsFitFor schema) (sym same) (c.queries_fit.ensures schema q typed)

pub returns-clause-typed : goal.returns-clause-typed
returns-clause-typed c =
    let q = query_typed_view c.args.query in
    let same = plan_is (scan_view c.bare.result) (map node_view c.in_ok-nodes.nodes.items) (naive_plan q) c.bare.ensures c.in_ok-nodes.ensures in
    λ schema typed. subst (IsTypedPlan schema) (sym same) (c.queries_are_typed.ensures schema q typed)
