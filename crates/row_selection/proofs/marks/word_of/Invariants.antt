use Rattle.std.proofs.Common.{◌≡◌, ℕ, ◌<◌, ◌^◌, take}
use Rattle.row_selection.specs.Marks.{marked_numbers, bit_numbers}
use Rattle.row_selection.proofs.marks.word_of.Given as goal

-- the bits are those of the marks so far
abbrev pub invariant-loop-place : goal.invariant-loop-place
invariant-loop-place l = (l.word < 2 ^ l.place) × ((start : ℕ) → bit_numbers start l.word 64 ≡ marked_numbers start (take l.place l.marks))
