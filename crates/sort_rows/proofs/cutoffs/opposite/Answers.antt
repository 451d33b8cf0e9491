use Rattle.std.proofs.Common.{subst, sym}
use Rattle.std.specs.Prelude.{IfSome}
use Rattle.typed_trees.specs.TypedTree.{truth_view}
use Rattle.typed_trees.specs.declared.tree.TruthExpr.{TruthExpr}
use Rattle.sort_rows.specs.Cutoffs.{IsTestOfColumn}
use Rattle.sort_rows.proofs.ColumnTestLemmas.{test_turned}
use Rattle.sort_rows.proofs.cutoffs.opposite.Goals as goal

pub returns-in_ok-new-in-Some : goal.returns-in_ok-new-in-Some
returns-in_ok-new-in-Some c column test is =
    test_turned column test _
    (subst (λ (e : TruthExpr). IsTestOfColumn column test (truth_view e)) (sym c.in_ok-new-in-Some.ensures.ok)
    (subst (λ condition. IfSome condition (λ e. IsTestOfColumn column test (truth_view e))) c.in-Some.is is))
