use Rattle.std.proofs.Common.{◌≡◌, take}
use Rattle.text_columns.proofs.places.write_twos.Given as goal

abbrev pub invariant-loop-i : goal.invariant-loop-i
invariant-loop-i l = take l.i l.out ≡ take l.i l.ends
