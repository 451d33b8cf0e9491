use Rattle.std.proofs.Common.{◌≡◌, ℕ, ◌<◌, false, get_or}
use Rattle.cell_types.specs.WhiteSpace.{is_white}
use Rattle.cell_types.proofs.white_space.word_len.Given as goal

abbrev pub invariant-loop-place : goal.invariant-loop-place
invariant-loop-place l = (k : ℕ) → k < l.place → is_white (get_or l.text k 0) ≡ false
