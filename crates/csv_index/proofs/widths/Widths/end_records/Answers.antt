-- Each turn counts up to the end of a record.
use Rattle.std.proofs.Common.{◌<◌, arith, refl, w64}
use Rattle.std.proofs.lemmas.Nat.Bits.{bit_at-trailing_zeros}
use Rattle.csv_index.proofs.Bits.{cleared_less}
use Rattle.csv_index.proofs.WidthLemmas.{counting_more, counting_all}
use Rattle.csv_index.proofs.widths.Widths.end_records.Goals as goal

pub end_record-requires-clause-start : goal.end_record-requires-clause-start
end_record-requires-clause-start c =
    let some : 0 < c.loop-left.left = omega arith in
    let m = counting_more c.args.self.now c.loop-left.self c.args.ends c.args.eol c.loop-left.left _ _ c.loop-left.invariant some (omega arith) refl refl c.requires.within in m.1

pub loop-left-smaller : goal.loop-left-smaller
loop-left-smaller c =
    let some : 0 < c.loop-left.left = omega arith in
    let low = bit_at-trailing_zeros w64 c.loop-left.left some (omega arith) in
    cleared_less c.loop-left.left _ low.0 low.1

pub loop-left-preserved : goal.loop-left-preserved
loop-left-preserved c =
    let some : 0 < c.loop-left.left = omega arith in
    let m = counting_more c.args.self.now c.loop-left.self c.args.ends c.args.eol c.loop-left.left _ _ c.loop-left.invariant some (omega arith) refl refl c.requires.within in
    rw c.end_record.ensures m.3

pub returns-clause-ended : goal.returns-clause-ended
returns-clause-ended c = counting_all c.args.self.now c.loop-left.self c.args.ends c.args.eol c.loop-left.left c.loop-left.invariant c.loop-left-test.false (omega arith)
