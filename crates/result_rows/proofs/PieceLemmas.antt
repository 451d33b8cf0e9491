-- The next rows of an order.
use Rattle.std.proofs.Common.{◌≡◌, ◌<◌, ◌≤◌, ◌-◌, ◌+◌, ◌++◌, ℕ, zero, suc, List, [], ◌∷◌, Some, None, append-nil, append_assoc, arith, drop, get_or, length, map, min, refl, subst, sym, take, ap, ◌∙◌}
use Rattle.std.specs.List.{All}
use Rattle.std.proofs.Math.Seq.{take-nil}
use Rattle.std.proofs.Math.Nat.{min-le_right}
use Rattle.std.proofs.lemmas.List.{drop-map, drop_min, length-append, length-drop, length-take, map-append, take-map}
use Rattle.std.proofs.lemmas.List.Elements.{All-append, All-drop, All-take}
use Rattle.cell_types.specs.Value.{CellValue}
use Rattle.row_columns.specs.Picked.{numbered}
use Rattle.row_columns.proofs.NumberedLaws.{all_numbered, all_within}
use Rattle.row_selection.specs.Numbers.{numbers_from}
use Rattle.sort_rows.specs.Runs.{left_rows, AreNumbersLeft, AreSortedRows, TakesNext}
use Rattle.sort_rows.specs.declared.streams.SortedRows.{SortedRows}

-- of the next `most` rows those with these numbers were taken, in `turns` turns
pub record TakesRows (rows : List (List CellValue)) (first : SortedRows) (most turns : ℕ) (left : SortedRows) (numbers : List ℕ) : Type 0 where
  pub sorted : AreSortedRows left rows
  pub taken : take most (left_rows first rows) ≡ numbered numbers rows ++ take (most - turns) (left_rows left rows)
  pub within : All (λ n. n < length rows) numbers

pub begins : (rows : List (List CellValue)) (first : SortedRows) (most : ℕ) → AreSortedRows first rows → TakesRows rows first most 0 first []
begins rows first most sorted = record {
  sorted = sorted;
  taken = let all : most ≡ most - 0 = omega arith in ap (λ k. take k (left_rows first rows)) all;
  within = λ n d h. absurd (omega (arith, h));
}

first_taken : (most turns : ℕ) (row : List CellValue) (all rest : List (List CellValue)) → turns < most → all ≡ row ∷ rest → take (most - turns) all ≡ row ∷ take (most - (turns + 1)) rest
first_taken most turns row all rest more is =
    let one : most - turns ≡ suc (most - (turns + 1)) = omega (arith, more) in
    ap (λ k. take k all) one ∙ ap (take (suc (most - (turns + 1)))) is

pub goes_on : (rows : List (List CellValue)) (first : SortedRows) (most turns : ℕ) (old new : SortedRows) (numbers : List ℕ) (number : ℕ) → TakesRows rows first most turns old numbers
    → turns < most → TakesNext rows old new (Some number) → TakesRows rows first most (turns + 1) new (numbers ++ number ∷ [])
goes_on rows first most turns old new numbers number has more next =
    let row = get_or rows number [] in
    let back = take (most - (turns + 1)) (left_rows new rows) in
    record {
      sorted = next.2;
      taken =
          has.taken ∙ ap (λ rs. numbered numbers rows ++ rs) (first_taken most turns row (left_rows old rows) (left_rows new rows) more next.1)
          ∙ sym (append_assoc (numbered numbers rows) (row ∷ []) back) ∙ ap (λ rs. rs ++ back) (sym (map-append (λ n. get_or rows n []) numbers (number ∷ [])));
      within =
          All-append (λ n. n < length rows) numbers (number ∷ []) has.within
          (λ n d h. let zero_is : n ≡ 0 = omega (arith, h) in subst (λ k. get_or (number ∷ []) k d < length rows) (sym zero_is) next.0);
    }

taken_all : (rows : List (List CellValue)) (first : SortedRows) (most turns : ℕ) (left : SortedRows) (numbers : List ℕ) → TakesRows rows first most turns left numbers
    → take (most - turns) (left_rows left rows) ≡ [] → AreNumbersLeft rows (take most (left_rows first rows)) numbers
taken_all rows first most turns left numbers has none = record {
  rows_are = sym (has.taken ∙ ap (λ rs. numbered numbers rows ++ rs) none ∙ append-nil (numbered numbers rows));
  within = has.within;
}

-- no row is left
pub none_left : (rows : List (List CellValue)) (first : SortedRows) (most turns : ℕ) (left new : SortedRows) (numbers : List ℕ) → TakesRows rows first most turns left numbers
    → TakesNext rows left new None → AreNumbersLeft rows (take most (left_rows first rows)) numbers
none_left rows first most turns left new numbers has none =
    taken_all rows first most turns left numbers has (ap (take (most - turns)) none ∙ take-nil (most - turns))

-- or as many are taken
pub all_taken : (rows : List (List CellValue)) (first : SortedRows) (most turns : ℕ) (left : SortedRows) (numbers : List ℕ) → TakesRows rows first most turns left numbers
    → most ≤ turns → AreNumbersLeft rows (take most (left_rows first rows)) numbers
all_taken rows first most turns left numbers has over =
    let none : most - turns ≡ 0 = omega (arith, over) in
    taken_all rows first most turns left numbers has (ap (λ k. take k (left_rows left rows)) none)

-- ---- rows as they stand

turned : {X : Type 0} (xs ys : List X) (n : ℕ) → n ≡ length xs → take n (xs ++ ys) ≡ xs
turned [] ys zero e = refl
turned [] ys (suc n) e = absurd (omega arith)
turned (x ∷ xs) ys zero e = absurd (omega arith)
turned (x ∷ xs) ys (suc n) e = ap (λ zs. x ∷ zs) (turned xs ys n (omega arith))

pub without_first : {X : Type 0} (xs ys zs : List X) (skip s : ℕ) → s ≡ min skip (length xs) → ys ≡ drop s xs ++ take s xs → zs ≡ take (length ys - s) ys → zs ≡ drop skip xs
without_first xs ys zs skip s e f g =
    let long = length-drop s xs in
    let short = length-take s xs in
    let both_parts = length-append (drop s xs) (take s xs) in
    let all : length ys ≡ length (drop s xs ++ take s xs) = ap length f in
    let least = min-le_right skip (length xs) in
    g ∙ ap (take (length ys - s)) f ∙ turned (drop s xs) (take s xs) (length ys - s) (omega (arith, long, short, both_parts, all, least, e))
    ∙ ap (λ n. drop n xs) e ∙ drop_min skip xs

pub stored_piece : (rows : List (List CellValue)) (skip top : ℕ) (numbers : List ℕ) → numbers ≡ take top (drop skip (numbers_from 0 (length rows)))
    → AreNumbersLeft rows (take top (drop skip rows)) numbers
stored_piece rows skip top numbers is =
    let all = numbers_from 0 (length rows) in
    let f : ℕ → List CellValue = λ n. get_or rows n [] in
    record {
      rows_are =
          ap (map f) is ∙ sym (take-map f top (drop skip all)) ∙ ap (take top) (sym (drop-map f skip all)) ∙ ap (λ rs. take top (drop skip rs)) (all_numbered rows);
      within =
          subst (All (λ i. i < length rows)) (sym is)
          (All-take (λ i. i < length rows) top (drop skip all) (All-drop (λ i. i < length rows) skip all (all_within (length rows))));
    }
