use Rattle.std.proofs.Common.{◌≡◌, ℕ, ◌<◌, false, get_or}
use Rattle.frame_of_reference.specs.Marks.{is_offset_between}
use Rattle.frame_of_reference.proofs.marks.mark_twos.Given as goal

abbrev pub invariant-loop-i : goal.invariant-loop-i
invariant-loop-i l = (k : ℕ) → k < l.i → get_or l.out k false ≡ is_offset_between l.low l.high (get_or l.offsets k 0)
