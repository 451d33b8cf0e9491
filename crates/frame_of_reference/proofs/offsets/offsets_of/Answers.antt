use Rattle.std.proofs.Common.{arith}
use Rattle.frame_of_reference.proofs.OffsetLemmas.{offsets_written}
use Rattle.frame_of_reference.proofs.offsets.offsets_of.Goals as goal

pub returns-in_ok-offsets : goal.returns-in_ok-offsets
returns-in_ok-offsets c =
    offsets_written _ _ c.ranges.least c.ranges.greatest _ _ _ c.write_ones.new.out _ (omega (arith, c.write_ones.ensures.long, c.in_ok-offsets.ensures.len)) c.write_ones.ensures

pub returns-in_ok-offsets-2 : goal.returns-in_ok-offsets-2
returns-in_ok-offsets-2 c =
    offsets_written _ _ c.ranges.least c.ranges.greatest _ _ _ c.write_twos.new.out _ (omega (arith, c.write_twos.ensures.long, c.in_ok-offsets-2.ensures.len)) c.write_twos.ensures

pub returns-in_ok-offsets-3 : goal.returns-in_ok-offsets-3
returns-in_ok-offsets-3 c =
    offsets_written _ _ c.ranges.least c.ranges.greatest _ _ _ c.write_fours.new.out _ (omega (arith, c.write_fours.ensures.long, c.in_ok-offsets-3.ensures.len)) c.write_fours.ensures

pub returns-in_ok-offsets-4 : goal.returns-in_ok-offsets-4
returns-in_ok-offsets-4 c =
    offsets_written _ _ c.ranges.least c.ranges.greatest _ _ _ c.write_eights.new.out _ (omega (arith, c.write_eights.ensures.long, c.in_ok-offsets-4.ensures.len)) c.write_eights.ensures
