use Rattle.std.proofs.Common.{Some, None, length, refl, rules, sym, ap, ◌∙◌}
use Rattle.std.specs.Prelude.{FitsSigned}
use Rattle.std.specs.Int.{w128}
use Rattle.std.proofs.lemmas.Int.{to_z-of_z}
use Rattle.typed_trees.specs.TypedTree.{arithmetic, negated, null_number, number_literal, number_view, scaled}
use Rattle.block_eval.proofs.ArithmeticLemmas.{arithmetic-is, number-negated, number-same, number-scaled}
use Rattle.block_eval.proofs.numbers.+bounded_numbers.Goals as goal

pub returns-in_ok-numbers-in-Arithmetic : goal.returns-in_ok-numbers-in-Arithmetic
returns-in_ok-numbers-in-Arithmetic t c =
    let o = c.in-Arithmetic.operator in
    let l = number_view c.deref-in-Arithmetic.result.now in
    let r = number_view c.deref-in-Arithmetic-2.result.now in
    arithmetic-is o l r (number_view c.args.expr.now) c.args.columns.now c.args.wanted.now c.in_ok-left-in-Arithmetic.left c.in_ok-right-in-Arithmetic.right c.in_ok-numbers-in-Arithmetic.numbers
    (ap (λ x. arithmetic o x r) (ap number_view c.deref-in-Arithmetic.ensures) ∙ ap (arithmetic o (number_view c.in-Arithmetic.left.value)) (ap number_view c.deref-in-Arithmetic-2.ensures) ∙ sym (ap number_view c.in-Arithmetic.is))
    c.in_ok-left-in-Arithmetic.ensures c.in_ok-right-in-Arithmetic.ensures c.in_ok-numbers-in-Arithmetic.ensures

pub returns-in_ok-negated-in-Negate : goal.returns-in_ok-negated-in-Negate
returns-in_ok-negated-in-Negate t c =
    number-negated (number_view c.deref.result.now) (number_view c.args.expr.now) c.args.columns.now c.args.wanted.now c.constant-zero.result c.in_ok-numbers-in-Negate.numbers c.in_ok-negated-in-Negate.negated
    (ap negated (ap number_view c.deref.ensures) ∙ sym (ap number_view c.in-Negate.is)) c.constant-zero.ensures c.in_ok-numbers-in-Negate.ensures c.in_ok-negated-in-Negate.ensures

pub returns-in_ok-scaled-in-Scaled : goal.returns-in_ok-scaled-in-Scaled
returns-in_ok-scaled-in-Scaled t c =
    number-scaled (number_view c.deref-in-Scaled.result.now) (number_view c.args.expr.now) c.args.columns.now c.args.wanted.now c.constant-unit.result c.in_ok-numbers-in-Scaled.numbers c.in_ok-scaled-in-Scaled.scaled
    (ap scaled (ap number_view c.deref-in-Scaled.ensures) ∙ sym (ap number_view c.in-Scaled.is)) c.constant-unit.ensures c.in_ok-numbers-in-Scaled.ensures c.in_ok-scaled-in-Scaled.ensures

pub join_bounded-requires-clause-left : goal.join_bounded-requires-clause-left
join_bounded-requires-clause-left t c = c.constant-zero.ensures.long (length c.args.wanted.now)

pub join_bounded-requires-in-Scaled-clause-right : goal.join_bounded-requires-in-Scaled-clause-right
join_bounded-requires-in-Scaled-clause-right t c = c.constant-unit.ensures.long (length c.args.wanted.now)

pub returns-in-Null : goal.returns-in-Null
returns-in-Null t c =
    number-same None null_number (number_view c.args.expr.now) c.args.columns.now c.args.wanted.now c.nulls.result (sym (ap number_view c.in-Null.is)) (λ cells. refl) c.nulls.ensures

pub returns-in_ok-numbers-in-Literal : goal.returns-in_ok-numbers-in-Literal
returns-in_ok-numbers-in-Literal t c =
    let fits : FitsSigned w128 c.in-Literal.number = search rules in
    number-same (Some c.in-Literal.number) (number_literal c.in-Literal.number) (number_view c.args.expr.now) c.args.columns.now c.args.wanted.now c.in_ok-numbers-in-Literal.numbers
    (sym (ap number_view c.in-Literal.is)) (λ cells. refl) (rw (to_z-of_z w128 c.in-Literal.number fits) at c.in_ok-numbers-in-Literal.ensures)
