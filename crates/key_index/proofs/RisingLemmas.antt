-- Keys of one integer each that rise: one row more, the keys on each side of a row, and what such keys never are.
use Rattle.std.proofs.Common.{◌≡◌, ◌≢◌, ℕ, ℤ, zero, suc, ◌+◌, ◌<◌, ◌≤◌, ◌<ℤ◌, Bool, false, List, [], ◌∷◌, length, take, get_or, None, find, IsTrue, ◌↔◌, refl, sym, ap, subst, ◌∙◌, inl, inr, arith}
use borrow.Author.Count.{below_more as count_more}
use Rattle.std.specs.Cmp.Lexicographic.{pointwise_decides}
use Rattle.std.specs.List.{range_with_len}
use Rattle.std.proofs.lemmas.Bool.{cases_lt, cases_order, false_from_ne_true}
use Rattle.std.proofs.lemmas.Int.{ints}
use Rattle.std.proofs.lemmas.List.{get_or-take, length-map, length-take}
use Rattle.column_blocks.specs.ColumnCells.{ColumnCells}
use Rattle.cell_types.specs.declared.value.Value.{Value}
use Rattle.cell_types.specs.declared.value.Value.TheVariants as V
use Rattle.cell_types.specs.Value.{CellValue, integer, null, value_eq, value_view}
use Rattle.key_index.specs.Key.{key_eq, has_null, is_repeated, null_row, repeated_row, row_key}
use Rattle.key_index.specs.Keys.{typed_row}
use Rattle.key_index.specs.Rising.{key_number, AreRising}
use Rattle.key_index.proofs.KeyLemmas.{list_any-nowhere, position-nowhere}
use Rattle.key_index.proofs.RowLemmas.{key_value}

-- ---- a list of one item
pub one_item : {X : Type 0} (xs : List X) (d : X) → length xs ≡ 1 → xs ≡ get_or xs 0 d ∷ []
one_item (x ∷ []) d e = refl
one_item xs d e = absurd (omega arith)

-- the key of a row, where one column is the key
pub one_cell : (columns : List ColumnCells) (places : List ℕ) (row : ℕ) (column : ColumnCells) → length places ≡ 1 → get_or places 0 0 < length columns
    → column ≡ get_or columns (get_or places 0 0) column → row_key places (typed_row row columns) ≡ get_or column.cells row null ∷ []
one_cell columns places row column one within is =
    let of : ℕ → CellValue = λ place. get_or (typed_row row columns) place null in
    one_item (row_key places (typed_row row columns)) null (length-map places of ∙ one)
    ∙ ap (λ v. v ∷ []) (key_value columns places row 0 column (omega (arith, one)) within is)

-- a value that is an integer
pub int_view : (v : Value) (z : ℤ) → value_view v ≡ integer z → v ≡ V.Int z
int_view (V.Int a) z e = cc
int_view v z e = absurd (cc)

-- ---- rows with the same keys
pub rising_same : (f g : ℕ → List CellValue) (count : ℕ) → ((row : ℕ) → row < count → f row ≡ g row) → AreRising f count → AreRising g count
rising_same f g count same rising = record {
  are = λ row within. rw (← (same row within)) (rising.are row within);
  rise = λ a b less within. rw (← (same a (omega arith)), ← (same b within)) (rising.rise a b less within);
}

-- ---- one row more, above the others
module _ (key_at : ℕ → List CellValue) (row : ℕ) (last number : ℤ) (rising : AreRising key_at row)
    (below : (k : ℕ) → k < row → last <ℤ key_number (key_at k) → ⊥) (is : key_at row ≡ integer number ∷ []) (more : last <ℤ number) where
  here : key_number (key_at row) ≡ number
  here = ap key_number is

  pub rising_more : AreRising key_at (row + 1)
  rising_more = record {
    are = count_more (λ k. key_at k ≡ integer (key_number (key_at k)) ∷ []) row rising.are (is ∙ ap (λ z. integer z ∷ []) (sym here));
    rise = λ a b less within.
        count_more (λ i. a < i → key_number (key_at a) <ℤ key_number (key_at i)) row (λ i before above. rising.rise a i above before)
        (λ above. let under = below a above in first_of (omega (arith, ints, here, more, under), grind (arith, ints, here, more, under))) b within less;
  }

  pub below_more : (k : ℕ) → k < row + 1 → number <ℤ key_number (key_at k) → ⊥
  below_more =
      count_more (λ k. number <ℤ key_number (key_at k) → ⊥) row (λ k before over. below k before (omega (arith, ints, over, more)))
      (λ over. absurd (omega (arith, ints, here, over)))

-- ---- the keys on each side of a row
module _ (key_at : ℕ → List CellValue) (count : ℕ) (rising : AreRising key_at count) (number : ℤ) (middle : ℕ) where
  pub below_middle : middle < count → key_number (key_at middle) <ℤ number → (row : ℕ) → row < middle + 1 → key_number (key_at row) <ℤ number
  below_middle within under =
      count_more (λ i. key_number (key_at i) <ℤ number) middle (λ i before. let rise = rising.rise i middle before within in omega (arith, ints, rise, under)) under

  pub above_middle : number <ℤ key_number (key_at middle) → (row : ℕ) → middle ≤ row → row < count → number <ℤ key_number (key_at row)
  above_middle over row from within = elim (cases_order row middle) [
    | inl same ↦ subst (λ i. number <ℤ key_number (key_at i)) (sym same) over
    | inr (inl before) ↦ absurd (omega (arith, from, before))
    | inr (inr after) ↦ let rise = rising.rise middle row after within in omega (arith, ints, rise, over)
  ]

  pub none_between : ((row : ℕ) → row < middle → key_number (key_at row) <ℤ number) → ((row : ℕ) → middle ≤ row → row < count → number <ℤ key_number (key_at row))
      → (row : ℕ) → row < count → integer number ∷ [] ≢ key_at row
  none_between below above row within same =
      let e : number ≡ key_number (key_at row) = ap key_number same in
      elim (cases_lt row middle) [
        | inl before ↦ let under = below row before in absurd (omega (arith, ints, e, under))
        | inr after ↦ let over = above row after within in absurd (omega (arith, ints, e, over))
      ]

-- ---- such keys have no null, and none is that of an earlier row
no_null : (z : ℤ) → has_null (integer z ∷ []) ≡ false
unfolding value_eq
no_null z = refl

pub rising-whole : (keys : List (List CellValue)) → AreRising (λ row. get_or keys row []) (length keys) → null_row keys ≡ None
rising-whole keys rising =
    position-nowhere has_null keys [] (λ k within. ap has_null (rising.are k within) ∙ no_null (key_number (get_or keys k [])))

find-nowhere : (p : ℕ → Bool) (a n : ℕ) → ((i : ℕ) → a ≤ i → i < a + n → p i ≡ false) → find p (range_with_len a n) ≡ None
find-nowhere p a zero lacks = refl
find-nowhere p a (suc n) lacks = rw (lacks a (omega arith) (omega arith)) (find-nowhere p (a + 1) n (λ i from to. lacks i (omega arith) (omega arith)))

pub rising-distinct : ((a b : CellValue) → IsTrue (value_eq a b) ↔ (a ≡ b)) → (keys : List (List CellValue)) → AreRising (λ row. get_or keys row []) (length keys) → repeated_row keys ≡ None
rising-distinct equal keys rising =
    find-nowhere (is_repeated keys) 0 (length keys)
    (λ row _ within. list_any-nowhere (key_eq (get_or keys row [])) (take row keys) []
    (λ k less. false_from_ne_true (key_eq (get_or keys row []) (get_or (take row keys) k []))
    (λ t.
    let before : k < row = omega (arith, length-take row keys) in
    let one = (pointwise_decides equal (get_or keys row []) (get_or (take row keys) k [])).0 t ∙ get_or-take row keys k [] before in
    let rise = rising.rise k row before (omega arith) in
    absurd (omega (arith, ints, rise, ap key_number one)))))
