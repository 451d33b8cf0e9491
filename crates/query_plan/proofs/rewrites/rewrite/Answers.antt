use Rattle.std.proofs.Common.{map, ap, ◌∙◌, sym, subst}
use Rattle.query_plan.specs.Fitting.{IsFitFor}
use Rattle.query_plan.specs.Plan.{node_view, plan_view}
use Rattle.query_plan.specs.Rewrite.{MeansTheSame, best_plan}
use Rattle.query_plan.proofs.PushedLemmas.{is_best, rewritten_fits, rewritten_means}
use Rattle.query_plan.proofs.rewrites.rewrite.Goals as goal

pub returns-clause-rewritten : goal.returns-clause-rewritten
returns-clause-rewritten c =
    is_best (plan_view c.in_ok-plan.plan) (map node_view c.in_ok-nodes.nodes.items) c.in_ok-nodes.ensures ∙ ap best_plan c.in_ok-plan.ensures

pub returns-clause-means : goal.returns-clause-means
returns-clause-means c = λ schema typed.
    let p = plan_view c.args.plan in
    subst (MeansTheSame schema p) (sym (is_best (plan_view c.in_ok-plan.plan) (map node_view c.in_ok-nodes.nodes.items) c.in_ok-nodes.ensures ∙ ap best_plan c.in_ok-plan.ensures))
    (rewritten_means (record { faults = c.faults_are_foreseen.ensures; unadmitted = c.unadmitted_blocks_pass_none.ensures; passed = c.tests_are_passed.ensures }) schema p typed)

pub returns-clause-fits : goal.returns-clause-fits
returns-clause-fits c = λ schema fit.
    let p = plan_view c.args.plan in
    subst (IsFitFor schema) (sym (is_best (plan_view c.in_ok-plan.plan) (map node_view c.in_ok-nodes.nodes.items) c.in_ok-nodes.ensures ∙ ap best_plan c.in_ok-plan.ensures))
    (rewritten_fits c.faults_are_foreseen.ensures schema p fit)
