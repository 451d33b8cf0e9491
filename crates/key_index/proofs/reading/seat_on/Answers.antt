use Rattle.std.proofs.Common.{arith}
use Rattle.key_index.proofs.ReadingLemmas.{seats_distinct}
use Rattle.key_index.proofs.reading.seat_on.Goals as goal

pub returns-in-None : goal.returns-in-None
returns-in-None c =
    let are = rw c.in-Ok.is at c.in_ok-seats.ensures.seats in
    seats_distinct c.args.places.now c.args.columns.now c.args.rows c.in-Ok.seats are
    (omega (arith, c.if-seats-key_count.false, c.key_count.ensures.count c.args.columns.now)) c.requires.few c.in-None.is
