use Rattle.std.proofs.Common.{◌∙◌}
use Rattle.csv_records.proofs.DoubledLemmas.{doubled-more}
use Rattle.csv_records.proofs.write.push_doubled.Goals as goal

pub loop-byte-preserved : goal.loop-byte-preserved
loop-byte-preserved c =
    c.in_ok-push_byte.ensures ∙ doubled-more c.loop-byte.out.items c.args.out.now.items c.args.cell.now c.loop-byte.byte-index c.loop-byte-test.true c.loop-byte.invariant
