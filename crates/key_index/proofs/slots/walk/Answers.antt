use Rattle.std.proofs.Common.{◌≡◌, ◌≢◌, ◌<◌, ◌+◌, ◌-◌, ℕ, get_or, length, map, sym, ap, ◌∙◌, arith}
use Rattle.std.proofs.lemmas.List.{get_or_default}
use Rattle.cell_types.specs.Value.{value_view}
use Rattle.key_index.specs.Hashes.{key_hash}
use Rattle.key_index.specs.Slots.{first_slot, free, raise_of, slot_at, slot_index}
use Rattle.key_index.proofs.SlotLemmas.{all_taken, index_again, index_next, index_within, looked_more, none_at_free, none_in_all}
use Rattle.key_index.proofs.RowLemmas.{key_at}
use Rattle.key_index.proofs.slots.walk.Goals.{then-slot-raised+else-row-rows, else-row-rows-via-then-row-rows+else-has_key, else-row-rows-via-else-row-rows, else-slot-raised, then-at-slots, else-at-slots}
use Rattle.key_index.proofs.slots.walk.Goals as goal

pub returns-then-slot : goal.returns-then-slot
returns-then-slot c =
    let slots = c.args.slots.now in
    let n = length slots in
    let key = map value_view c.args.key.now in
    let first = first_slot (key_hash key) n in
    let raise = raise_of (key_hash key) n in
    let first_is : c.first_slot-at.result ≡ first = rw c.hash_of-hash.ensures at c.first_slot-at.ensures.slot in
    let raised_is : c.raise-raised.result ≡ raise = rw c.hash_of-hash.ensures at c.raise-raised.ensures.raise in
    let place = first + c.loop-look._look in
    let at = c.loop-look.at in
    let end : place < first + n = omega (arith, c.loop-look-test.true) in
    let within : at < n = rw c.loop-look.invariant.at (index_within n place (omega (arith, end, first_is, c.first_slot-at.ensures.within))) in
    let is : get_or slots at free ≡ free = get_or_default slots at free 0 within ∙ c.if-slot.true in
    let here : slot_at slots place ≡ free = ap (λ i. get_or slots i free) (sym c.loop-look.invariant.at) ∙ is in (
      record {
        within = within;
        is = is;
        place = place;
        from = omega arith;
        to = end;
        same = sym c.loop-look.invariant.at;
        taken = c.loop-look.invariant.looked.taken;
      },
      none_at_free slots first raise c.args.rows (key_at c.args.places.now c.args.columns.now) key place c.loop-look.invariant.looked here (omega arith)
          (omega (arith, raised_is, c.raise-raised.ensures.room)) c.requires.rows,
    )

pub loop-look-preserved : goal.loop-look-preserved
loop-look-preserved c =
    let slots = c.args.slots.now in
    let n = length slots in
    let key = map value_view c.args.key.now in
    let first = first_slot (key_hash key) n in
    let raise = raise_of (key_hash key) n in
    let first_is : c.first_slot-at.result ≡ first = rw c.hash_of-hash.ensures at c.first_slot-at.ensures.slot in
    let raised_is : c.raise-raised.result ≡ raise = rw c.hash_of-hash.ensures at c.raise-raised.ensures.raise in
    let place = first + c.loop-look._look in
    let at = c.loop-look.at in
    let slot = get_or slots at 0 in
    let end : place + 1 < n + n = omega (arith, c.loop-look-test.true, first_is, c.first_slot-at.ensures.within) in
    let within : at < n = rw c.loop-look.invariant.at (index_within n place (omega (arith, end))) in
    let here : slot_at slots place ≡ slot = ap (λ i. get_or slots i free) (sym c.loop-look.invariant.at) ∙ get_or_default slots at free 0 within in
    let more : place + 1 ≡ first + (c.loop-look._look + 1) = omega arith in
    let other : (row : ℕ) → row < c.args.rows → slot_at slots place ≡ raise + row → key ≢ key_at c.args.places.now c.args.columns.now row = λ row inside holds same.
    let value : slot ≡ c.raise-raised.result + row = sym here ∙ holds ∙ ap (λ r. r + row) (sym raised_is) in
    elim c.if-slot-raised.branch [
      | then-slot-raised+else-row-rows w ↦ elim w.else-row-rows.branch [
        | else-row-rows-via-then-row-rows+else-has_key v ↦
            let row_is : row ≡ slot - c.raise-raised.result = omega (arith, value) in
            v.has_key.ensures.no v.if-has_key.false (same ∙ ap (key_at c.args.places.now c.args.columns.now) row_is)
        | else-row-rows-via-else-row-rows v ↦ absurd (omega (arith, value, inside, v.if-row-rows.false))
      ]
      | else-slot-raised w ↦ absurd (omega (arith, value, w.if-slot-raised.false))
    ] in record {
      at = elim c.if-at-slots.branch [
        | then-at-slots w ↦ w.at-is ∙ index_again n place at c.loop-look.invariant.at w.if-at-slots.true end ∙ ap (slot_index n) more
        | else-at-slots w ↦ w.at-is ∙ index_next n place at c.loop-look.invariant.at w.if-at-slots.false end ∙ ap (slot_index n) more
      ];
      looked = rw (← more) (looked_more slots first raise c.args.rows (key_at c.args.places.now c.args.columns.now) key place c.loop-look.invariant.looked (λ e. c.if-slot.false (sym here ∙ e)) other);
    }

pub returns : goal.returns
returns c =
    let slots = c.args.slots.now in
    let n = length slots in
    let key = map value_view c.args.key.now in
    let first = first_slot (key_hash key) n in
    let raise = raise_of (key_hash key) n in
    let first_is : c.first_slot-at.result ≡ first = rw c.hash_of-hash.ensures at c.first_slot-at.ensures.slot in
    let all : first + c.loop-look._look ≡ first + n = omega (arith, c.loop-look-test.false, c.loop-look.auto._look-end) in
    let looked = rw all at c.loop-look.invariant.looked in (
      all_taken slots first raise c.args.rows (key_at c.args.places.now c.args.columns.now) key looked (omega (arith, first_is, c.first_slot-at.ensures.within)),
      none_in_all slots first raise c.args.rows (key_at c.args.places.now c.args.columns.now) key looked,
    )
