use Rattle.std.proofs.Common.{◌<◌, ◌^◌}
use Rattle.cell_types.proofs.DecimalLemmas.{WritesAs}
use Rattle.cell_types.proofs.decimal.number_after.Given as goal

-- the digits that are left, after the number so far, write what all of them do
abbrev pub invariant-loop-byte : goal.invariant-loop-byte
invariant-loop-byte l = (l.number < 2 ^ 64) × WritesAs l.start l.digits l.byte-index l.number
