-- Values in slots, while texts and values that are not packed come after others.
use Rattle.std.proofs.Common.{◌≡◌, ◌≢◌, ◌<◌, ◌≤◌, ◌+◌, ◌-◌, ℕ, zero, suc, Bool, true, false, not, ◌&&◌, List, [], ◌∷◌, ◌++◌, Some, length, map, take, drop, get_or, inl, inr, ◌⊎◌, refl, sym, ap, ◌∙◌, arith}
use Rattle.std.specs.Prelude.{IsUtf8, slice_get, slice_range, slice_set}
use Rattle.std.specs.Cmp.Lexicographic.{pointwise}
use Rattle.std.specs.Str.{IsCharBoundary}
use Rattle.std.proofs.lemmas.List.{append-nil, drop-append-le, drop_at, length-append, length-drop, take-append-le, take_all}
use Rattle.std.proofs.lemmas.Str.{IsCharBoundary-at_seam, IsCharBoundary-end, IsCharBoundary-start, IsUtf8-nil}
use Rattle.cell_types.specs.Value.{text, value_view}
use Rattle.value_rows.specs.declared.slots.Other.{Other}
use Rattle.value_rows.specs.declared.slots.Slot.{Slot}
use Rattle.value_rows.specs.declared.slots.Slot.TheVariants as slots
use Rattle.value_rows.specs.Packed.{other_view, slot_view, AreSlots, Grow, Grows, IsSlot}

boundary-more : (bs more : List ℕ) (i : ℕ) → IsUtf8 more → IsCharBoundary bs i → IsCharBoundary (bs ++ more) i
boundary-more [] more zero utf8 b = IsCharBoundary-start more utf8
boundary-more [] more (suc i) utf8 b = absurd (omega (arith, b.0))
boundary-more (x ∷ bs) more zero utf8 b = (omega arith, λ h lead. b.1 (omega arith) lead)
boundary-more (x ∷ bs) more (suc i) utf8 b =
    let rest = boundary-more bs more i utf8 (omega (arith, b.0), λ h lead. b.1 (omega (arith, h)) lead) in
    (omega (arith, rest.0), λ h lead. rest.1 (omega (arith, h)) lead)

range-more : (bs more : List ℕ) (i j : ℕ) → i ≤ j → j ≤ length bs → slice_range (bs ++ more) i j ≡ slice_range bs i j
range-more bs more i j order inside =
    ap (take (j - i)) (drop-append-le i bs more (omega arith)) ∙ take-append-le (j - i) (drop i bs) more (omega (arith, length-drop i bs))

there-more : (others more : List Other) (i : ℕ) (o : Other) → slice_get others i ≡ Some o → slice_get (others ++ more) i ≡ Some o
there-more [] more i o at = absurd (cc)
there-more (x ∷ others) more zero o at = at
there-more (x ∷ others) more (suc i) o at = there-more others more i o at

module _ (texts more : List ℕ) (utf8 : IsUtf8 more) (others new : List Other) where
  pub slot-stays : (place : ℕ) (slot : Slot) → IsSlot texts others place slot
      → IsSlot (texts ++ more) (others ++ new) place slot × (slot_view (texts ++ more) (others ++ new) slot ≡ slot_view texts others slot)
  slot-stays place slots.Null is = (tt, refl)
  slot-stays place (slots.Integer n) is = (tt, refl)
  slot-stays place (slots.Decimal n) is = (tt, refl)
  slot-stays place (slots.Boolean b) is = (tt, refl)
  slot-stays place (slots.Date d) is = (tt, refl)
  slot-stays place (slots.Text start len) is =
      ((boundary-more texts more start utf8 is.0, boundary-more texts more (start + len) utf8 is.1), ap text (range-more texts more start (start + len) (omega arith) (is.1).0))
  slot-stays place (slots.Other other) is =
      let at = there-more others new other is.0 is.1 in
      ((is.0, at, is.2), ap other_view (at ∙ sym is.1))

  pub slots-stay : (place : ℕ) (all : List Slot) → AreSlots texts others place all
      → AreSlots (texts ++ more) (others ++ new) place all × (map (slot_view (texts ++ more) (others ++ new)) all ≡ map (slot_view texts others) all)
  slots-stay place [] are = (tt, refl)
  slots-stay place (s ∷ all) are =
      let one = slot-stays place s are.0 in
      let rest = slots-stay (suc place) all are.1 in
      ((one.0, rest.0), rw (one.1, rest.1) refl)

module _ (texts : List ℕ) (others : List Other) where
  pub slots-pushed : (place : ℕ) (all : List Slot) (end : ℕ) (slot : Slot) → end ≡ place + length all → AreSlots texts others place all → IsSlot texts others end slot
      → AreSlots texts others place (all ++ slot ∷ [])
  slots-pushed place [] end slot at are is = let e : end ≡ place = omega (arith, at) in (rw e at is, tt)
  slots-pushed place (s ∷ all) end slot at are is = (are.0, slots-pushed (suc place) all end slot (omega (arith, at)) are.1 is)

  pub slots-cut : (place n : ℕ) (all : List Slot) → AreSlots texts others place all → AreSlots texts others place (take n all)
  slots-cut place zero all are = tt
  slots-cut place (suc n) [] are = tt
  slots-cut place (suc n) (s ∷ all) are = (are.0, slots-cut (suc place) n all are.1)

  pub slot-at : (place : ℕ) (all : List Slot) (i end : ℕ) (d : Slot) → end ≡ place + i → i < length all → AreSlots texts others place all → IsSlot texts others end (get_or all i d)
  slot-at place [] i end d at inside are = absurd (omega (arith, inside))
  slot-at place (s ∷ all) zero end d at inside are = let e : end ≡ place = omega (arith, at) in rw e are.0
  slot-at place (s ∷ all) (suc i) end d at inside are = slot-at (suc place) all i end d (omega (arith, at)) (omega (arith, inside)) are.1

  pub slots-set : (place : ℕ) (all : List Slot) (i end : ℕ) (slot : Slot) → end ≡ place + i → AreSlots texts others place all → IsSlot texts others end slot
      → AreSlots texts others place (slice_set all i slot)
  slots-set place [] i end slot at are is = tt
  slots-set place (s ∷ all) zero end slot at are is = let e : end ≡ place = omega (arith, at) in (rw e at is, are.1)
  slots-set place (s ∷ all) (suc i) end slot at are is = (are.0, slots-set (suc place) all i end slot (omega (arith, at)) are.1 is)

-- a value that is not packed, in the place of another one that has its place in the list
changed-at : (others : List Other) (k j : ℕ) (old new o : Other) → slice_get others k ≡ Some old → new.place ≡ old.place → slice_get others j ≡ Some o
    → (made : Other) × (slice_get (slice_set others k new) j ≡ Some made) × (made.place ≡ o.place) × (o.place ≢ old.place → made ≡ o)
changed-at [] k j old new o at same there = absurd (cc)
changed-at (x ∷ others) zero zero old new o at same there =
    let own : o.place ≡ old.place = (let e : Some o ≡ Some old = sym there ∙ at in cc) in
    (new, refl, same ∙ sym own, λ differ. absurd (differ own))
changed-at (x ∷ others) zero (suc j) old new o at same there = (o, there, refl, λ differ. refl)
changed-at (x ∷ others) (suc k) zero old new o at same there = (o, there, refl, λ differ. refl)
changed-at (x ∷ others) (suc k) (suc j) old new o at same there = changed-at others k j old new o at same there

set-there : (others : List Other) (k : ℕ) (old new : Other) → slice_get others k ≡ Some old → slice_get (slice_set others k new) k ≡ Some new
set-there [] k old new at = absurd (cc)
set-there (x ∷ others) zero old new at = refl
set-there (x ∷ others) (suc k) old new at = set-there others k old new at

module _ (texts : List ℕ) (others : List Other) (k : ℕ) (old new : Other) (at : slice_get others k ≡ Some old) (same : new.place ≡ old.place) where
  slot-changed : (place : ℕ) (slot : Slot) → IsSlot texts others place slot
      → IsSlot texts (slice_set others k new) place slot × (place ≢ old.place → slot_view texts (slice_set others k new) slot ≡ slot_view texts others slot)
  slot-changed place slots.Null is = (tt, λ differ. refl)
  slot-changed place (slots.Integer n) is = (tt, λ differ. refl)
  slot-changed place (slots.Decimal n) is = (tt, λ differ. refl)
  slot-changed place (slots.Boolean b) is = (tt, λ differ. refl)
  slot-changed place (slots.Date d) is = (tt, λ differ. refl)
  slot-changed place (slots.Text start len) is = (is, λ differ. refl)
  slot-changed place (slots.Other j) is =
      let it = changed-at others k j old new is.0 at same is.1 in
      ((it.0, it.1, it.2 ∙ is.2), λ differ. ap other_view (it.1 ∙ ap Some (it.3 (λ e. differ (sym is.2 ∙ e))) ∙ sym is.1))

  pub slots-changed : (place : ℕ) (all : List Slot) → AreSlots texts others place all → AreSlots texts (slice_set others k new) place all
  slots-changed place [] are = tt
  slots-changed place (s ∷ all) are = ((slot-changed place s are.0).0, slots-changed (suc place) all are.1)

  others-stay : (place : ℕ) (all : List Slot) → old.place < place → AreSlots texts others place all → map (slot_view texts (slice_set others k new)) all ≡ map (slot_view texts others) all
  others-stay place [] past are = refl
  others-stay place (s ∷ all) past are = rw ((slot-changed place s are.0).1 (λ e. absurd (omega (arith, e, past))), others-stay (suc place) all (omega (arith, past)) are.1) refl

  -- its slot has another value, and the others keep theirs
  pub value-changed : (place : ℕ) (all : List Slot) (i : ℕ) (d : Slot) → old.place ≡ place + i → i < length all → get_or all i d ≡ slots.Other k → AreSlots texts others place all
      → map (slot_view texts (slice_set others k new)) all ≡ slice_set (map (slot_view texts others) all) i (value_view new.value)
  value-changed place [] i d own inside is are = absurd (omega (arith, inside))
  value-changed place (s ∷ all) zero d own inside is are =
      rw (is, set-there others k old new at, others-stay (suc place) all (omega (arith, own)) are.1) refl
  value-changed place (s ∷ all) (suc i) d own inside is are =
      rw ((slot-changed place s are.0).1 (λ e. absurd (omega (arith, e, own))), value-changed (suc place) all i d (omega (arith, own)) (omega (arith, inside)) is are.1) refl

-- ---- lists beside others

module _ {A B : Type 0} (eq : A → B → Bool) where
  pub pointwise-all : (xs : List A) (ys : List B) (d : A) (e : B) → length xs ≡ length ys → ((i : ℕ) → i < length xs → eq (get_or xs i d) (get_or ys i e) ≡ true) → pointwise eq xs ys ≡ true
  pointwise-all [] [] d e long all = refl
  pointwise-all [] (y ∷ ys) d e long all = absurd (omega (arith, long))
  pointwise-all (x ∷ xs) [] d e long all = absurd (omega (arith, long))
  pointwise-all (x ∷ xs) (y ∷ ys) d e long all = rw (all 0 (omega arith), pointwise-all xs ys d e (omega (arith, long)) (λ i h. all (suc i) (omega (arith, h)))) refl

  pub pointwise-long : (xs : List A) (ys : List B) → length xs ≢ length ys → pointwise eq xs ys ≡ false
  pointwise-long [] [] long = absurd (long refl)
  pointwise-long [] (y ∷ ys) long = refl
  pointwise-long (x ∷ xs) [] long = refl
  pointwise-long (x ∷ xs) (y ∷ ys) long = rw (pointwise-long xs ys (λ e. long (ap suc e))) (and-false (eq x y))
    where
      and-false : (b : Bool) → (b && false) ≡ false
      and-false true = refl
      and-false false = refl

  pub pointwise-not : (xs : List A) (ys : List B) (i : ℕ) (d : A) (e : B) → i < length xs → i < length ys → eq (get_or xs i d) (get_or ys i e) ≡ false → pointwise eq xs ys ≡ false
  pointwise-not [] ys i d e inside within not = absurd (omega (arith, inside))
  pointwise-not (x ∷ xs) [] i d e inside within not = absurd (omega (arith, within))
  pointwise-not (x ∷ xs) (y ∷ ys) zero d e inside within not = rw not refl
  pointwise-not (x ∷ xs) (y ∷ ys) (suc i) d e inside within not = rw (pointwise-not xs ys i d e (omega (arith, inside)) (omega (arith, within)) not) (and-false (eq x y))
    where
      and-false : (b : Bool) → (b && false) ≡ false
      and-false true = refl
      and-false false = refl

-- ---- what grows

pub grown : (texts : List ℕ) (others : List Other) (more_texts : List ℕ) (more_others : List Other) → Grow texts others more_texts more_others → (place : ℕ) (all : List Slot) → AreSlots texts others place all
    → AreSlots more_texts more_others place all × (map (slot_view more_texts more_others) all ≡ map (slot_view texts others) all)
grown texts others more_texts more_others grow place all are = rw (grow.0.2, grow.1.1) (slots-stay texts grow.0.0 grow.0.1 others grow.1.0 place all are)

pub others-grown : (texts : List ℕ) (others more : List Other) → Grows others more → Grow texts others texts more
others-grown texts others more grow = (([], IsUtf8-nil, sym (append-nil texts)), grow)

pub text-there : (texts t new : List ℕ) (start : ℕ) → IsUtf8 t → new ≡ texts ++ t → start ≡ length texts
    → IsCharBoundary new start × IsCharBoundary new (start + length t) × (slice_range new start (start + length t) ≡ t)
text-there texts t new start utf8 is at =
    let end : length new ≡ start + length t = omega (arith, ap length is, length-append texts t, at) in
    let size : start + length t - start ≡ length t = omega arith in (
      rw at (IsCharBoundary-at_seam new texts t is utf8),
      rw (← end) (IsCharBoundary-end new),
      ap (λ n. take n (drop start new)) size ∙ ap (λ bs. take (length t) (drop start bs)) is ∙ ap (take (length t)) (drop_at texts t start (sym at)) ∙ take_all (length t) t (omega arith),
    )

pub not-true : (b c : Bool) → c ≡ not b → c ≡ true → b ≡ false
not-true true c e t = absurd (cc)
not-true false c e t = refl

pub not-false : (b c : Bool) → c ≡ not b → c ≡ false → b ≡ true
not-false true c e t = refl
not-false false c e t = absurd (cc)

pub less-or-last : (j i : ℕ) → j < i + 1 → (j < i) ⊎ (j ≡ i)
less-or-last zero zero h = inr refl
less-or-last zero (suc i) h = inl (omega arith)
less-or-last (suc j) zero h = absurd (omega (arith, h))
less-or-last (suc j) (suc i) h = elim (less-or-last j i (omega (arith, h))) [ inl less ↦ inl (omega (arith, less)) | inr last ↦ inr (ap suc last) ]
