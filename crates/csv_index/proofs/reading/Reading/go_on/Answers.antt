-- The text is read on, block after block.
use Rattle.std.proofs.Common.{◌-◌, ◌*◌, length-drop, sym, subst, arith, ◌≤◌}
use Rattle.std.specs.Vec.{vec_len}
use Rattle.csv_index.specs.Reading.{bytes_left, IsBlockReading}
use Rattle.csv_index.proofs.ReadingLemmas.{AreCounts, read_counts, left_is, one_more, room_left, under_way, under_way_more}
use Rattle.csv_index.proofs.reading.Reading.go_on.Goals.{At-loop-rest, then-rest-stop-2+in_ok-reading-2, else-rest-stop-2}
use Rattle.csv_index.proofs.reading.Reading.go_on.Goals as goal

-- what is counted so far
counts : (c : At-loop-rest) → AreCounts c.args.text.now c.loop-rest.reading.blocks.masks.items c.loop-rest.reading.widths
counts c = read_counts c.one_structure.ensures c.args.text.now (vec_len c.loop-rest.reading.blocks.masks) c.loop-rest.reading.carry c.loop-rest.reading.blocks.masks.items c.loop-rest.reading.widths c.loop-rest.reading.unended c.loop-rest.invariant.reads.read

pub loop-rest-init : goal.loop-rest-init
loop-rest-init c = under_way c.args.text.now c.args.self c.min.result (omega (arith, c.min.ensures)) c.requires

pub read-requires-clause-room : goal.read-requires-clause-room
read-requires-clause-room c =
    room_left c.args.text.now c.loop-rest.rest.now c.loop-rest.reading c.loop-rest.invariant (omega (arith, c.loop-rest-test.true))

pub read-requires-clause-before : goal.read-requires-clause-before
read-requires-clause-before c = (counts (goal.at.read-requires-clause-before c).At-loop-rest).before

pub read-requires-clause-start : goal.read-requires-clause-start
read-requires-clause-start c = (counts (goal.at.read-requires-clause-start c).At-loop-rest).start

pub read-requires-clause-places : goal.read-requires-clause-places
read-requires-clause-places c = let m = counts (goal.at.read-requires-clause-places c).At-loop-rest in omega (arith, m.places)

pub read-requires-clause-records : goal.read-requires-clause-records
read-requires-clause-records c = let m = counts (goal.at.read-requires-clause-records c).At-loop-rest in omega (arith, m.records)

pub loop-rest-preserved : goal.loop-rest-preserved
loop-rest-preserved c =
    under_way_more c.args.text.now c.loop-rest.rest.now c.loop-rest.reading c.in_ok-reading.reading c.loop-rest.invariant c.loop-rest-test.true
    (c.in_ok-reading.ensures.read c.args.text.now (vec_len c.loop-rest.reading.blocks.masks) c.loop-rest.invariant.rest_is c.loop-rest.invariant.reads.read)
    c.in_ok-reading.ensures.ranked c.in_ok-reading.ensures.count c.in_ok-reading.ensures.room

pub read-requires-then-rest-stop-2-clause-room : goal.read-requires-then-rest-stop-2-clause-room
read-requires-then-rest-stop-2-clause-room c =
    room_left c.args.text.now c.loop-rest.rest.now c.loop-rest.reading c.loop-rest.invariant (omega (arith, c.if-rest-stop-2.true))

pub read-requires-then-rest-stop-2-clause-before : goal.read-requires-then-rest-stop-2-clause-before
read-requires-then-rest-stop-2-clause-before c = (counts (goal.at.read-requires-then-rest-stop-2-clause-before c).At-loop-rest).before

pub read-requires-then-rest-stop-2-clause-start : goal.read-requires-then-rest-stop-2-clause-start
read-requires-then-rest-stop-2-clause-start c = (counts (goal.at.read-requires-then-rest-stop-2-clause-start c).At-loop-rest).start

pub read-requires-then-rest-stop-2-clause-places : goal.read-requires-then-rest-stop-2-clause-places
read-requires-then-rest-stop-2-clause-places c =
    let m = counts (goal.at.read-requires-then-rest-stop-2-clause-places c).At-loop-rest in omega (arith, m.places)

pub read-requires-then-rest-stop-2-clause-records : goal.read-requires-then-rest-stop-2-clause-records
read-requires-then-rest-stop-2-clause-records c =
    let m = counts (goal.at.read-requires-then-rest-stop-2-clause-records c).At-loop-rest in omega (arith, m.records)

pub returns-clause-reads : goal.returns-clause-reads
returns-clause-reads c = elim c.if-rest-stop-2.branch [
  | then-rest-stop-2+in_ok-reading-2 w ↦ subst (IsBlockReading c.args.text.now) (sym w.reading-is)
      (one_more c.args.text.now c.loop-rest.rest.now c.loop-rest.reading w.in_ok-reading-2.reading c.loop-rest.invariant (omega (arith, w.if-rest-stop-2.true))
      (w.in_ok-reading-2.ensures.read c.args.text.now (vec_len c.loop-rest.reading.blocks.masks) c.loop-rest.invariant.rest_is c.loop-rest.invariant.reads.read)
      w.in_ok-reading-2.ensures.ranked w.in_ok-reading-2.ensures.count w.in_ok-reading-2.ensures.room)
  | else-rest-stop-2 w ↦ subst (IsBlockReading c.args.text.now) (sym w.reading-is) c.loop-rest.invariant.reads
]

pub returns-clause-left : goal.returns-clause-left
returns-clause-left c =
    let text = c.args.text.now in
    let size = left_is text c.loop-rest.rest.now c.loop-rest.reading c.loop-rest.invariant in
    elim c.if-rest-stop-2.branch [
      | then-rest-stop-2+in_ok-reading-2 w ↦ subst (λ r. bytes_left text r ≤ bytes_left text c.args.self - 64 * c.args.most) (sym w.reading-is)
          (omega (arith, size, w.if-rest-stop-2.true, w.in_ok-reading-2.ensures.count))
      | else-rest-stop-2 w ↦ subst (λ r. bytes_left text r ≤ bytes_left text c.args.self - 64 * c.args.most) (sym w.reading-is)
          (omega (arith, size, w.if-rest-stop-2.false, c.saturating_sub-stop.ensures, c.saturating_mul.ensures, length-drop (64 * vec_len c.args.self.blocks.masks) text))
    ]
