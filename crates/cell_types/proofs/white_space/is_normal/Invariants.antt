use Rattle.std.proofs.Common.{◌≡◌, true, drop}
use Rattle.cell_types.proofs.WhiteSpaceLemmas.{is_spaced}
use Rattle.cell_types.proofs.white_space.is_normal.Given as goal

abbrev pub invariant-loop-byte : goal.invariant-loop-byte
invariant-loop-byte l = is_spaced true l.fn.text ≡ is_spaced l.after_white (drop l.byte-index l.fn.text)
