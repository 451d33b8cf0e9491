-- Slots: what is reached from one on, and what a row that is put in a free slot changes.
use Rattle.std.proofs.Common.{◌≡◌, ◌≢◌, ℕ, ◌+◌, ◌-◌, ◌*◌, ◌%◌, ◌^◌, ◌<◌, ◌≤◌, ◌==◌, cond, List, length, get_or, replicate, set, refl, sym, ap, subst, ◌∙◌, inl, inr, arith}
use borrow.Author.Count.{below_more}
use Rattle.std.proofs.lemmas.Bool.{cases_eq, cases_lt, cases_order, ne_eqb}
use Rattle.std.proofs.lemmas.Bool.Decides.{nat_tests}
use Rattle.std.proofs.lemmas.List.{length-set, get_or_default, get_or-set_same, get_or-set_other}
use Rattle.std.proofs.lemmas.List.Folds.{sum_by-replicate}
use Rattle.std.proofs.lemmas.List.Sums.{sum_by-le}
use Rattle.std.proofs.lemmas.Nat.{mod_below, mul-le}
use Rattle.cell_types.specs.Value.{CellValue}
use Rattle.key_index.specs.Hashes.{key_hash}
use Rattle.key_index.specs.declared.slots.Met.{Met}
use Rattle.key_index.specs.declared.slots.Met.TheVariants.{Row, Free, Nothing}
use Rattle.key_index.specs.Slots.{free, first_slot, free_slots, raise_of, share_of, slot_at, slot_index, AreSeated, IsFirstFree, IsFirstMet, IsHeld, NoneFree, NoneHas}

-- ---- places, counted on after the last slot
pub index_before : (n p : ℕ) → p < n → slot_index n p ≡ p
index_before n p less = grind (arith, nat_tests)

pub index_after : (n p : ℕ) → n ≤ p → slot_index n p ≡ p - n
index_after n p more = grind (arith, nat_tests)

pub index_within : (n p : ℕ) → p < n + n → slot_index n p < n
index_within n p within = grind (arith, nat_tests)

pub index_next : (n p at : ℕ) → at ≡ slot_index n p → at + 1 ≢ n → p + 1 < n + n → at + 1 ≡ slot_index n (p + 1)
index_next n p at is other within = grind (arith, nat_tests)

pub index_again : (n p at : ℕ) → at ≡ slot_index n p → at + 1 ≡ n → p + 1 < n + n → 0 ≡ slot_index n (p + 1)
index_again n p at is last within = grind (arith, nat_tests)

-- ---- a look at one slot more
-- the slots that were looked at hold no row with the key
pub record HaveLooked (slots : List ℕ) (first : ℕ) (raise count : ℕ) (key_at : ℕ → List CellValue) (key : List CellValue) (place : ℕ) : Type 0 where
  pub taken : NoneFree slots first place
  pub unlike : (p row : ℕ) → first ≤ p → p < place → row < count → slot_at slots p ≡ raise + row → key ≢ key_at row

module _ (slots : List ℕ) (first raise count : ℕ) (key_at : ℕ → List CellValue) (key : List CellValue) where
  pub looked_more : (place : ℕ) → HaveLooked slots first raise count key_at key place → slot_at slots place ≢ free
      → ((row : ℕ) → row < count → slot_at slots place ≡ raise + row → key ≢ key_at row) → HaveLooked slots first raise count key_at key (place + 1)
  looked_more place looked full other = record {
    taken = λ p from to. below_more (λ i. first ≤ i → slot_at slots i ≢ free) place (λ i less at. looked.taken i at less) (λ _. full) p to from;
    unlike = λ p row from to.
        below_more (λ i. first ≤ i → (r : ℕ) → r < count → slot_at slots i ≡ raise + r → key ≢ key_at r) place (λ i less at r. looked.unlike i r at less) (λ _. other) p to from row;
  }

  -- at a free slot no row is left that has the key
  pub none_at_free : (place : ℕ) → HaveLooked slots first raise count key_at key place → slot_at slots place ≡ free → first ≤ place → raise + length slots ≤ free → count ≤ length slots
      → (row : ℕ) → row < count → IsHeld slots first (raise + row) → key ≢ key_at row
  none_at_free place looked is from room few row within held =
      elim (cases_order held.place place) [
        | inl same ↦
            let e : free ≡ raise + row = sym is ∙ ap (slot_at slots) (sym same) ∙ held.holds in
            absurd (omega (arith, e, room, few, within))
        | inr (inl before) ↦ looked.unlike held.place row held.from before within held.holds
        | inr (inr after) ↦ absurd (held.taken place from after is)
      ]

  -- nor where each slot was looked at
  pub none_in_all : HaveLooked slots first raise count key_at key (first + length slots) → (row : ℕ) → row < count → IsHeld slots first (raise + row) → key ≢ key_at row
  none_in_all looked row within held = looked.unlike held.place row held.from held.to within held.holds

  pub all_taken : HaveLooked slots first raise count key_at key (first + length slots) → first < length slots → (k : ℕ) → k < length slots → get_or slots k free ≢ free
  all_taken looked below k within =
      elim (cases_lt k first) [
        | inl before ↦
            let again : slot_index (length slots) (k + length slots) ≡ k = omega (arith, index_after (length slots) (k + length slots) (omega arith)) in
            subst (λ i. get_or slots i free ≢ free) again (looked.taken (k + length slots) (omega (arith, below)) (omega (arith, before)))
        | inr after ↦ subst (λ i. get_or slots i free ≢ free) (index_before (length slots) k within) (looked.taken k after (omega (arith, within)))
      ]

-- ---- a row in a free slot
module _ (slots : List ℕ) (at held : ℕ) (is : get_or slots at free ≡ free) where
  slot_kept : (p : ℕ) → slot_at slots p ≢ free → slot_at (set slots at held) p ≡ slot_at slots p
  slot_kept p full = rw (length-set slots at held)
      (get_or-set_other slots at (slot_index (length slots) p) held free (λ same. full (ap (λ i. get_or slots i free) same ∙ is)))

  taken_kept : (first place : ℕ) → NoneFree slots first place → NoneFree (set slots at held) first place
  taken_kept first place taken p from to e = taken p from to (sym (slot_kept p (taken p from to)) ∙ e)

  held_kept : (first other : ℕ) → other ≢ free → IsHeld slots first other → IsHeld (set slots at held) first other
  held_kept first other some h = record {
    place = h.place;
    from = h.from;
    to = omega (arith, h.to, length-set slots at held);
    holds = slot_kept h.place (λ e. some (sym h.holds ∙ e)) ∙ h.holds;
    taken = taken_kept first h.place h.taken;
  }

  held_new : (hash : ℕ) → IsFirstFree slots hash at → IsHeld (set slots at held) (first_slot hash (length slots)) held
  held_new hash f = record {
    place = f.place;
    from = f.from;
    to = omega (arith, f.to, length-set slots at held);
    holds = rw (length-set slots at held, f.same) (get_or-set_same slots at held free f.within);
    taken = taken_kept (first_slot hash (length slots)) f.place f.taken;
  }

-- no slot that a row raises is a free one
raise-le : (hash slots : ℕ) → raise_of hash slots ≤ 0xFFFF_FFFF - slots
unfolding raise_of share_of
raise-le hash slots =
    let most = mul-le (hash % 2 ^ 32) (0xFFFF_FFFF - slots) (2 ^ 32) (0xFFFF_FFFF - slots) (omega (arith, mod_below hash (2 ^ 32) (omega arith))) (omega arith) in
    omega (arith, most)

pub raised_some : (hash slots row : ℕ) → slots ≤ free → row < slots → raise_of hash slots + row ≢ free
raised_some hash slots row few within e = absurd (omega (arith, raise-le hash slots, few, within, e))

pub seated_more : (key_at : ℕ → List CellValue) (slots : List ℕ) (row at : ℕ) → AreSeated key_at slots row → IsFirstFree slots (key_hash (key_at row)) at
    → length slots ≤ free → row < length slots
    → AreSeated key_at (set slots at (raise_of (key_hash (key_at row)) (length slots) + row)) (row + 1)
seated_more key_at slots row at seated first few room r within =
    let n = length slots in
    let held = raise_of (key_hash (key_at row)) n + row in
    rw (length-set slots at held) (elim (cases_eq r row) [
      | inl same ↦ rw same (held_new slots at held first.is (key_hash (key_at row)) first)
      | inr other ↦ held_kept slots at held first.is (first_slot (key_hash (key_at r)) n) (raise_of (key_hash (key_at r)) n + r)
          (raised_some (key_hash (key_at r)) n r few (omega arith)) (seated r (omega arith))
    ])

-- ---- how many slots are free
abbrev count_of : ℕ → ℕ
count_of slot = cond (slot == free) 1 0

pub all_free : (n : ℕ) → free_slots (replicate n free) ≡ n
all_free n = let e : free_slots (replicate n free) ≡ n * count_of free = sum_by-replicate count_of n free in omega (arith, e)

pub none_free : (slots : List ℕ) → ((k : ℕ) → k < length slots → get_or slots k free ≢ free) → free_slots slots ≡ 0
none_free slots full =
    let most : free_slots slots ≤ length slots * 0 = sum_by-le count_of 0 slots
    (λ k d within. rw (ne_eqb (get_or slots k d) free (λ e. full k within (get_or_default slots k free d within ∙ e))) (omega arith)) in
    omega (arith, most)

-- ---- the row that has a key
-- of rows that are seated the key of none is one that none was met with
pub none_has : (key_at : ℕ → List CellValue) (slots : List ℕ) (count : ℕ) (key : List CellValue) → AreSeated key_at slots count → NoneHas slots count key_at key
    → (row : ℕ) → row < count → key ≢ key_at row
none_has key_at slots count key seated none row within same = none row within (rw same (seated row within)) same

-- so where nothing or a free slot was met
pub none_met : (slots : List ℕ) (count : ℕ) (key_at : ℕ → List CellValue) (key : List CellValue) (met : Met) → IsFirstMet slots count key_at key met
    → ((row : ℕ) → met ≡ Row row → ⊥) → NoneHas slots count key_at key
none_met slots count key_at key (Row row) is other = absurd (other row refl)
none_met slots count key_at key (Free at) is other = is.1
none_met slots count key_at key Nothing is other = is.1

-- rows with the same keys
pub seated_same : (f g : ℕ → List CellValue) (slots : List ℕ) (count : ℕ) → ((row : ℕ) → row < count → f row ≡ g row) → AreSeated f slots count → AreSeated g slots count
seated_same f g slots count same seated row within = rw (← (same row within)) (seated row within)
