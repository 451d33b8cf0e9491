use Rattle.std.proofs.Common.{arith}
use Rattle.key_index.proofs.ReadingLemmas.{all_rising}
use Rattle.key_index.proofs.reading.rise_on.Goals as goal

pub returns : goal.returns
returns c =
    all_rising c.values_are_ordered.ensures.equal c.args.places.now c.args.columns.now c.args.rows c.in-Some.rise
    (omega (arith, c.in-Some.ensures.row, c.min-end.ensures, c.if-end-rows.false)) c.in-Some.ensures.rises
