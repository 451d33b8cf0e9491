-- Lists of values on the rows that are wanted.
use borrow.Author.Count.{below_more}
use Rattle.std.proofs.Common.{◌≡◌, ◌≢◌, inl, inr, ◌<◌, ◌+◌, ◌++◌, ◌||◌, ℕ, Bool, true, false, Option, None, Some, List, [], ◌∷◌, length, map, take, get_or, refl, sym, ap, ◌∙◌}
use Rattle.std.specs.Prelude.{ℤ, pos, ◌<ℤ◌, option_map, slice_set}
use Rattle.std.specs.Cmp.Lexicographic.{slice_cmp}
use Rattle.std.specs.List.{list_any}
use Rattle.std.specs.Ordering.{MatchOrdering, int_cmp, int_eq, is_eq, nat_cmp, ordering_reverse}
use Rattle.std.specs.declared.cmp.Ordering.{Ordering}
use Rattle.std.specs.declared.cmp.Ordering.TheVariants.{Less, Equal, Greater}
use Rattle.std.proofs.lemmas.Cmp.{int_cmp_total, int_ranked}
use Rattle.std.proofs.lemmas.Bool.{cases_eq}
use Rattle.std.proofs.lemmas.List.{get_or-set_other, get_or-set_same, get_or_default}
use Rattle.std.proofs.lemmas.List.Folds.{list_any-append, list_any_more, list_any_none}
use Rattle.cell_types.specs.Value.{CellValue}
use Rattle.block_summary.specs.declared.bounds.Bounds.{Bounds}
use Rattle.row_eval.specs.declared.truth.Truth.{Truth}
use Rattle.row_eval.specs.Comparison.{compared, is_among, is_equal}
use Rattle.row_eval.specs.Logic.{truth_of}
use Rattle.block_eval.specs.declared.bounded.Bounded.{Bounded}
use Rattle.block_eval.specs.declared.columns.BlockColumn.{BlockColumn}
use Rattle.text_kernels.specs.declared.texts.Texts.{Texts}
use Rattle.block_eval.specs.Bounded.{GivesBounded}
use Rattle.block_eval.specs.Items.{slot_of, AreFoundAmong, AreSlotted, HaveNearItems, IsNearItem}
use Rattle.block_eval.specs.Lanes.{GivesTruths}
use Rattle.text_kernels.specs.Texts.{AreAmong}
use Rattle.block_eval.specs.Texts.{GivesTexts}
use Rattle.block_eval.proofs.LogicLemmas.{wanted_within}

-- ---- values under other names that keep their order
module _ {X Y : Type 0} (h : X → Y) (p : X → X → Ordering) (q : Y → Y → Ordering) (same : (a b : X) → q (h a) (h b) ≡ p a b) where
  pub compared-map : (x y : Option X) → compared q (option_map h x) (option_map h y) ≡ compared p x y
  compared-map None None = refl
  compared-map None (Some b) = refl
  compared-map (Some a) None = refl
  compared-map (Some a) (Some b) = ap (λ c. Some c) (same a b)

  pub among-map : (x : Option X) (items : List (Option X)) → is_among q (option_map h x) (map (option_map h) items) ≡ is_among p x items
  among-map x [] = refl
  among-map x (item ∷ items) =
      ap (λ c. is_equal c || is_among q (option_map h x) (map (option_map h) items)) (compared-map x item)
      ∙ ap (λ b. is_equal (compared p x item) || b) (among-map x items)

-- ---- numbers among items

back : (r : Ordering) → is_eq (ordering_reverse r) ≡ is_equal (Some r)
back Less = refl
back Equal = refl
back Greater = refl

-- whichever of two numbers comes first
equal-back : (m n : ℤ) → int_eq m n ≡ is_equal (compared int_cmp (Some n) (Some m))
equal-back m n = ap is_eq (int_cmp_total.antisymm m n) ∙ back (int_cmp n m)

apart : {n m : ℤ} (r : Ordering) → MatchOrdering r (n <ℤ m) (n ≡ m) (m <ℤ n) → n ≢ m → is_equal (Some r) ≡ false
apart Less ranks other = refl
apart Equal ranks other = absurd (other ranks)
apart Greater ranks other = refl

or_false : (b : Bool) → (b || false) ≡ b
or_false true = refl
or_false false = refl

other-item : (item : Option ℤ) (n : ℤ) → item ≢ Some n → is_equal (compared int_cmp (Some n) item) ≡ false
other-item None n other = refl
other-item (Some m) n other = apart {n = n} {m = m} (int_cmp n m) (int_ranked n m (int_cmp n m) refl) (λ e. other (ap (λ k. Some k) (sym e)))

module _ (known : Option Bounds) (items : List (Option ℤ)) (i : ℕ) (within : i < length items) (numbers : List ℤ) (have : HaveNearItems known (take i items) numbers) where
  pub one-near : (near : ℤ) → get_or items i None ≡ Some near → HaveNearItems known (take (i + 1) items) (numbers ++ near ∷ [])
  one-near near is n fits lies =
      let test = λ (m : ℤ). int_eq m n in
      let among = λ (item : Option ℤ). is_equal (compared int_cmp (Some n) item) in
      list_any-append test numbers (near ∷ [])
      ∙ ap (λ b. b || list_any test (near ∷ [])) (have n fits lies)
      ∙ ap (λ b. list_any among (take i items) || b) (or_false (test near) ∙ equal-back near n ∙ ap among (sym is))
      ∙ sym (list_any_more among items i None within)

  pub none-near : IsNearItem known (get_or items i None) None → HaveNearItems known (take (i + 1) items) numbers
  none-near other n fits lies =
      let among = λ (item : Option ℤ). is_equal (compared int_cmp (Some n) item) in
      have n fits lies ∙ sym (or_false (list_any among (take i items)))
      ∙ ap (λ b. list_any among (take i items) || b) (sym (other-item (get_or items i None) n (other n fits lies)))
      ∙ sym (list_any_more among items i None within)

-- a number whose slot is 0 is none of the numbers
pub slot-empty : (numbers : List ℤ) (slots : List ℕ) (n : ℤ) → AreSlotted numbers slots → get_or slots (slot_of n) 0 ≡ 0 → list_any (λ m. int_eq m n) numbers ≡ false
slot-empty numbers slots n slotted empty =
    list_any_none (λ m. int_eq m n) numbers (λ k d h.
    let m = get_or numbers k d in
    let place : get_or slots (slot_of (get_or numbers k (pos 0))) 0 ≡ get_or slots (slot_of m) 0 = ap (λ l. get_or slots (slot_of l) 0) (get_or_default numbers k (pos 0) d h) in
    equal-back m n ∙ other-item (Some m) n (λ e. let same : m ≡ n = cc in slotted.each k h (place ∙ ap (λ l. get_or slots (slot_of l) 0) same ∙ empty)))

-- one more number enters its slot
slot-kept : (slots : List ℕ) (slot v j : ℕ) → slot < length slots → v ≢ 0 → (j ≢ slot → get_or slots j 0 ≢ 0) → get_or (slice_set slots slot v) j 0 ≢ 0
slot-kept slots slot v j within some kept empty = elim (cases_eq j slot) [
  | inl at ↦ some (sym (ap (λ k. get_or (slice_set slots slot v) k 0) at ∙ get_or-set_same slots slot v 0 within) ∙ empty)
  | inr other ↦ kept other (sym (get_or-set_other slots slot j v 0 other) ∙ empty)
]

pub slot-entered : (numbers : List ℤ) (slots : List ℕ) (i slot v : ℕ) → ((k : ℕ) → k < i → get_or slots (slot_of (get_or numbers k (pos 0))) 0 ≢ 0)
    → slot ≡ slot_of (get_or numbers i (pos 0)) → slot < length slots → v ≢ 0 → (k : ℕ) → k < i + 1 → get_or (slice_set slots slot v) (slot_of (get_or numbers k (pos 0))) 0 ≢ 0
slot-entered numbers slots i slot v so_far is within some =
    below_more (λ k. get_or (slice_set slots slot v) (slot_of (get_or numbers k (pos 0))) 0 ≢ 0) i
    (λ k less. slot-kept slots slot v (slot_of (get_or numbers k (pos 0))) within some (λ _. so_far k less))
    (slot-kept slots slot v (slot_of (get_or numbers i (pos 0))) within some (λ other. absurd (other (sym is))))

-- ---- values that are there on each wanted row
pub numbers-among : (f : List CellValue → Option (Option ℤ)) (columns : List BlockColumn) (wanted : List Bool) (v : Bounded) (items : List (Option ℤ)) (ts : List Truth) → GivesBounded f columns wanted v
    → AreFoundAmong v items (length wanted) ts → GivesTruths (λ cells. option_map (λ x. truth_of (is_among int_cmp x items)) (f cells)) columns wanted ts
numbers-among f columns wanted v items ts gives is = record {
  each = λ row cells h at.
      ap (option_map (λ x. truth_of (is_among int_cmp x items))) (gives.numbers.each row cells h at)
      ∙ ap (λ t. Some t) (sym (is.each row (wanted_within wanted row h) (gives.within row cells h at)));
  long = is.long;
}

pub texts-among : (f : List CellValue → Option (List ℕ)) (columns : List BlockColumn) (wanted : List Bool) (v : Texts) (items : List (Option (List ℕ))) (ts : List Truth) → GivesTexts f columns wanted v
    → AreAmong v items wanted ts → GivesTruths (λ cells. Some (truth_of (is_among (slice_cmp nat_cmp) (f cells) items))) columns wanted ts
texts-among f columns wanted v items ts gives is = record {
  each = λ row cells h at.
      ap (λ x. Some (truth_of (is_among (slice_cmp nat_cmp) x items))) (gives.each row cells h at) ∙ ap (λ t. Some t) (sym (is.each row (wanted_within wanted row h) h));
  long = is.long;
}
