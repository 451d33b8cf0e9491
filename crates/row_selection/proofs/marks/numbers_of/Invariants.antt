use Rattle.std.proofs.Common.{◌≡◌, ◌*◌, take}
use Rattle.row_selection.specs.Marks.{marked_numbers}
use Rattle.row_selection.proofs.marks.numbers_of.Given as goal

-- the numbers so far are those of the marks before
abbrev pub invariant-loop-word : goal.invariant-loop-word
invariant-loop-word l = l.numbers.items ≡ marked_numbers 0 (take (l.word * 64) l.marks)
