use Rattle.std.proofs.Common.{refl, sym, ap}
use Rattle.std.specs.Prelude.{Some}
use Rattle.row_eval.specs.declared.truth.Truth.TheVariants.{Null}
use Rattle.typed_trees.specs.TypedTree.{null_truth, truth_literal, truth_view}
use Rattle.block_eval.proofs.LogicLemmas.{same-gives}
use Rattle.block_eval.proofs.leaf.eval_leaf.Goals as goal

pub returns-in_ok-truths-in-Null : goal.returns-in_ok-truths-in-Null
returns-in_ok-truths-in-Null c =
    same-gives null_truth (truth_view c.args.expr.now) Null c.args.columns.now c.args.wanted.now c.in_ok-truths-in-Null.truths.items
    (sym (ap truth_view c.in-Null.is)) (λ cells. refl) c.in_ok-truths-in-Null.ensures

pub returns-in_ok-truths-in-Literal : goal.returns-in_ok-truths-in-Literal
returns-in_ok-truths-in-Literal c =
    same-gives (truth_literal c.in-Literal.value) (truth_view c.args.expr.now) c.truth_of.result c.args.columns.now c.args.wanted.now c.in_ok-truths-in-Literal.truths.items
    (sym (ap truth_view c.in-Literal.is)) (λ cells. ap (λ x. Some x) (sym c.truth_of.ensures)) c.in_ok-truths-in-Literal.ensures
