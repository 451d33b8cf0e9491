-- The slots that there are stay free, and so are those after them.
use Rattle.std.proofs.Common.{◌≡◌, ◌≤◌, refl, ap, sym, ◌∙◌, arith, replicate, vec_len}
use Rattle.key_index.specs.Slots.{free}
use Rattle.key_index.proofs.ReadingLemmas.{more_free, seats_free}
use Rattle.key_index.proofs.reading.make_slots.Goals as goal

pub returns : goal.returns
returns c = λ columns.
    let count = c.slot_count-count.result in
    let has = c.requires.free columns in
    let is = c.slot_count-count.ensures.count columns in
    let all : c.min-more.result ≡ count = omega (arith, c.min-more.ensures, c.if-more-count.false) in
    let less : vec_len c.args.slots ≤ c.min-more.result = omega (arith, has.within, is, all) in
    let made = more_free c.args.slots c.resize.new.self c.min-more.result has.are less c.in_ok-resize.ensures.items in (
      seats_free c.args.places.now columns c.args.rows count _ is refl refl (made ∙ ap (λ n. replicate n free) all),
      omega arith,
    )

pub returns-then-more-count : goal.returns-then-more-count
returns-then-more-count c = λ columns.
    let has = c.requires.free columns in
    let is = c.slot_count-count.ensures.count columns in
    let less : vec_len c.args.slots ≤ c.min-more.result = omega (arith, has.within, is, c.min-more.ensures, c.len.ensures) in
    let made = more_free c.args.slots c.resize.new.self c.min-more.result has.are less c.in_ok-resize.ensures.items in (
      record {
        are = made ∙ sym (ap (λ n. replicate n free) c.in_ok-resize.ensures.len);
        within = omega (arith, c.in_ok-resize.ensures.len, c.if-more-count.true, is);
      },
      omega (arith, c.in_ok-resize.ensures.len, c.if-more-count.true, c.min-more.ensures, c.len.ensures, c.slot_count-count.ensures.most),
    )
