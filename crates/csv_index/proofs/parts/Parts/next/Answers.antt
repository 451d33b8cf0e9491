-- The next places are those after the part's last.
use Rattle.std.proofs.Common.{◌≡◌, ◌+◌, ◌*◌, ◌<◌, ◌≤◌, length, length-drop, length-set, arith, ap, ◌∙◌}
use Rattle.std.proofs.lemmas.List.{get_or-set_same, get_or_read}
use Rattle.std.specs.List.{slice_index}
use Rattle.csv_index.specs.Parts.{next_part}
use Rattle.csv_index.proofs.PartLemmas.{count_next, ends_next_part, left_next, part_next, parts_with, room_next, AreNext}
use Rattle.csv_index.proofs.parts.Parts.next.Goals as goal

pub invariant_of-self : goal.invariant_of-self
invariant_of-self c =
    let p = c.self.inside in
    let places = p.places.items in
    let last = p.rows * p.width in
    let within : last < length places = omega (arith, c.self.invariant.places) in
    let first : slice_index c.fill.new.places.items 0 ≡ slice_index places last =
    c.fill.ensures.first ∙ get_or-set_same places 0 c.index.result.now 0 (omega (arith, within)) ∙ get_or_read places last c.index.result.now within c.index.ensures 0 in
    let are : AreNext places c.fill.new.places.items p.ends c.fill.new.self last (c.min-rows.result * p.width) =
    record { within = within; first = first; filled = c.fill.ensures.places; rest = c.fill.ensures.left } in
    let long : length c.fill.new.places.items ≡ length places = c.fill.ensures.long ∙ length-set places 0 c.index.result.now in
    let room : c.min-rows.result * p.width + 1 ≤ length places = omega (arith, c.self.invariant.room, ap (λ k. k * p.width) c.min-rows.ensures) in
    record {
      places = omega (arith, long, room);
      room = room_next p.left c.min-rows.result 128 p.width (length c.fill.new.places.items) c.min-rows.ensures (omega (arith, long, room));
      ends = ends_next_part p.text.now places c.fill.new.places.items p.ends c.fill.new.self last (c.min-rows.result * p.width) are c.self.invariant.ends;
      count = count_next p.left c.min-rows.result 128 p.width (length p.ends) (length c.fill.new.self) c.min-rows.ensures c.self.invariant.count
          (ap length c.fill.ensures.left ∙ length-drop (c.min-rows.result * p.width) p.ends);
    }

pub returns : goal.returns
returns c =
    let p = c.self.inside in
    let places = p.places.items in
    let last = p.rows * p.width in
    let within : last < length places = omega (arith, c.self.invariant.places) in
    let first : slice_index c.fill.new.places.items 0 ≡ slice_index places last =
    c.fill.ensures.first ∙ get_or-set_same places 0 c.index.result.now 0 (omega (arith, within)) ∙ get_or_read places last c.index.result.now within c.index.ensures 0 in
    let are : AreNext places c.fill.new.places.items p.ends c.fill.new.self last (c.min-rows.result * p.width) =
    record { within = within; first = first; filled = c.fill.ensures.places; rest = c.fill.ensures.left } in
    parts_with p.text.now p.width _ _ _ _
    (part_next p.text.now places c.fill.new.places.items p.ends c.fill.new.self p.width p.rows p.left c.min-rows.result 128 c.min-rows.ensures are)
    (left_next p.text.now places c.fill.new.places.items p.ends c.fill.new.self p.width p.rows p.left c.min-rows.result 128 c.min-rows.ensures are)
    ∙ ap next_part c.self.view_is
