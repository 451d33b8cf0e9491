use Rattle.std.proofs.Common.{◌++◌, ap, append-nil, sym, ◌∙◌}
use Rattle.row_selection.specs.Marks.{bit_numbers}
use Rattle.row_selection.proofs.BitLemmas.{marked-none}
use Rattle.row_selection.proofs.marks.push_word.Goals as goal

pub returns : goal.returns
returns c =
    let numbers = c.loop-left.numbers.items in
    let start = c.args.start in
    sym (append-nil numbers) ∙ ap (λ ns. numbers ++ ns) (sym (marked-none start)) ∙ ap (λ w. numbers ++ bit_numbers start w 64) (sym c.loop-left-test.false) ∙ c.loop-left.invariant
