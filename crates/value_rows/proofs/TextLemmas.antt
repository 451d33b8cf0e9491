-- Texts of slots between two places.
use Rattle.std.proofs.Common.{◌≡◌, ◌<◌, ◌≤◌, ◌+◌, ◌*◌, ◌-◌, ℕ, zero, suc, List, None, Option, Some, length, map, drop, get_or, subst, sym, ap, ◌∙◌, arith}
use Rattle.std.specs.Prelude.{slice_range, IfSome}
use Rattle.std.proofs.lemmas.List.{get_or-drop, get_or-map, get_or-take, length-drop, length-take-le}
use Rattle.cell_types.specs.Value.{CellValue, null}
use Rattle.value_rows.specs.declared.slots.Other.{Other}
use Rattle.value_rows.specs.declared.slots.Slot.{Slot}
use Rattle.value_rows.specs.declared.slots.Slot.TheVariants as slots
use Rattle.value_rows.specs.Packed.{slot_view, AreSlots, AreSpanned, AreTextsWithin, HaveText, IsSpanned, IsTextWithin}
use Rattle.value_rows.proofs.PackedLemmas.{slot-at}

-- a text between two places is a part of what is between them
part-between : (texts : List ℕ) (low high start len : ℕ) → low ≤ start → start + len ≤ high → high ≤ length texts → HaveText (slice_range texts low high) (slice_range texts start (start + len))
part-between texts low high start len after before fits =
    let size : length (slice_range texts start (start + len)) ≡ len = length-take-le (start + len - start) (drop start texts) (omega (arith, length-drop start texts, after, before, fits)) ∙ omega arith in
    let whole : length (slice_range texts low high) ≡ high - low = length-take-le (high - low) (drop low texts) (omega (arith, length-drop low texts, fits)) in
    record {
      place = start - low;
      fits = omega (arith, size, whole, after, before);
      reads = λ k less.
          let there : low + (start - low + k) ≡ start + k = omega (arith, after) in
          get_or-take (high - low) (drop low texts) (start - low + k) 0 (omega (arith, less, size, after, before))
          ∙ get_or-drop low texts (start - low + k) 0 ∙ ap (λ n. get_or texts n 0) there
          ∙ sym (get_or-take (start + len - start) (drop start texts) k 0 (omega (arith, less, size)) ∙ get_or-drop start texts k 0);
    }

module _ (texts : List ℕ) (others : List Other) (all : List Slot) (are : AreSlots texts others 0 all) where
  -- the end of a text
  pub ends-inside : (place start len : ℕ) → place < length all → get_or all place slots.Null ≡ slots.Text start len → start + len ≤ length texts
  ends-inside place start len inside is = (rw is at (slot-at texts others 0 all place place slots.Null (omega arith) inside are)).1.0

  pub text-within : (place len low high : ℕ) → place < length all → high ≤ length texts → IsSpanned (get_or all place slots.Null) len low high
      → IsTextWithin (get_or (map (slot_view texts others) all) place null) len (slice_range texts low high)
  text-within place len low high inside fits spanned =
      let start = spanned.start in
      let end = ends-inside place start len inside spanned.is in
      record {
        t = slice_range texts start (start + len);
        is = get_or-map (slot_view texts others) all place slots.Null null inside ∙ ap (slot_view texts others) spanned.is;
        long = sym (length-take-le (start + len - start) (drop start texts) (omega (arith, length-drop start texts, end)) ∙ omega arith);
        have = part-between texts low high start len spanned.after spanned.before fits;
      }

  pub texts-within : (from step low high : ℕ) (lengths : List ℕ) → ((i : ℕ) → i < length lengths → from + i * step < length all) → AreSpanned all from step lengths low high
      → AreTextsWithin (λ i. get_or (map (slot_view texts others) all) (from + i * step) null) lengths (slice_range texts low high)
  texts-within from step low high lengths inside spanned i less =
      let end = ends-inside (from + spanned.last * step) spanned.start spanned.len (inside spanned.last spanned.within) spanned.is in
      text-within (from + i * step) (get_or lengths i 0) low high (inside i less) (omega (arith, end, spanned.end)) (spanned.each i less)

  pub span-fits : (from step low high : ℕ) (lengths : List ℕ) → ((i : ℕ) → i < length lengths → from + i * step < length all) → AreSpanned all from step lengths low high → high ≤ length texts
  span-fits from step low high lengths inside spanned =
      omega (arith, ends-inside (from + spanned.last * step) spanned.start spanned.len (inside spanned.last spanned.within) spanned.is, spanned.end)

-- values that are the same
pub some-texts : {B : Type 0} (one other : ℕ → CellValue) (lengths : List ℕ) → ((i : ℕ) → i < length lengths → one i ≡ other i) → (now : B → List ℕ) (bytes : Option B)
    → IfSome bytes (λ b. AreTextsWithin one lengths (now b)) → IfSome bytes (λ b. AreTextsWithin other lengths (now b))
some-texts one other lengths same now None are = tt
some-texts one other lengths same now (Some b) are = λ i less. subst (λ v. IsTextWithin v (get_or lengths i 0) (now b)) (same i less) (are i less)

-- a product of a sum
pub times-add : (width a b : ℕ) → (a + b) * width ≡ a * width + b * width
times-add width zero b = omega arith
times-add width (suc a) b = let e : suc a + b ≡ suc (a + b) = omega arith in omega (arith, ap (λ n. n * width) e, times-add width a b)
