use Rattle.std.proofs.Common.{◌*◌, ◌++◌, ℕ, List, ap, arith, refl, sym, take, ◌∙◌}
use Rattle.row_selection.specs.Marks.{bit_numbers, marked_numbers}
use Rattle.row_selection.proofs.MarkLemmas.{marked_word}
use Rattle.row_selection.proofs.marks.numbers_of.Goals as goal

pub loop-word-preserved : goal.loop-word-preserved
loop-word-preserved c =
    let marks = c.args.marks.now in
    let w = c.loop-word.word in
    c.in_ok-push_word.ensures ∙ ap (λ (ns : List ℕ). ns ++ bit_numbers (w * 64) c.word_of.result 64) c.loop-word.invariant
    ∙ ap (λ (ns : List ℕ). marked_numbers 0 (take (w * 64) marks) ++ ns) (c.word_of.ensures (w * 64))
    ∙ sym (marked_word marks w (w * 64) c.min-end.result _ refl (omega (arith, c.loop-word-test.true)) c.min-end.ensures refl)
