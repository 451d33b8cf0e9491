use Rattle.std.proofs.Common.{◌+◌, ◌++◌, ◌∷◌, [], ap, arith, cond, false, get_or, sym, ◌∙◌}
use Rattle.row_selection.proofs.BitLemmas.{mark_more, marked-none}
use Rattle.row_selection.proofs.MarkLemmas.{marked_next, marked_none}
use Rattle.row_selection.proofs.marks.word_of.Goals as goal

pub returns-then-not-any_of : goal.returns-then-not-any_of
returns-then-not-any_of c = λ start. marked-none start ∙ sym (marked_none start c.args.marks.now (c.any_of.ensures c.if-not-any_of.true))

pub loop-place-init : goal.loop-place-init
loop-place-init c = (omega arith, λ start. marked-none start)

pub loop-place-preserved : goal.loop-place-preserved
loop-place-preserved c =
    let marks = c.args.marks.now in
    let i = c.loop-place.place in
    let b = get_or marks i false in
    let step = mark_more c.loop-place.word i b c.from.result c.from.ensures (omega (arith, c.requires, c.loop-place-test.true)) c.loop-place.invariant.0 in
    (step.0, λ start. step.1 start ∙ ap (λ ns. ns ++ cond b ((start + i) ∷ []) []) (c.loop-place.invariant.1 start) ∙ sym (marked_next start marks i c.loop-place-test.true))
