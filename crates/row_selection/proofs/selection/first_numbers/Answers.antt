use Rattle.std.proofs.Common.{◌≡◌, ◌+◌, ◌++◌, ◌∷◌, [], ap, sym, ◌∙◌, arith}
use Rattle.row_selection.specs.Numbers.{numbers_from}
use Rattle.row_selection.proofs.NumberLemmas.{numbers_more}
use Rattle.row_selection.proofs.selection.first_numbers.Goals as goal

pub loop-number-preserved : goal.loop-number-preserved
loop-number-preserved c =
    let n = c.loop-number.number in
    let same : n ≡ 0 + n = omega arith in
    c.in_ok-push.ensures.items ∙ ap (λ ns. ns ++ n ∷ []) c.loop-number.invariant ∙ ap (λ m. numbers_from 0 n ++ m ∷ []) same ∙ sym (numbers_more 0 n)
