-- The least and the greatest text of the rows so far.
use Rattle.std.proofs.Common.{◌≡◌, ◌⊎◌, inl, inr, ℕ, ◌+◌, ◌<◌, ◌≤◌, List, [], ◌∷◌, ◌++◌, Option, None, Some, length, get_or, take, refl, sym, ap, ◌∙◌, subst, arith}
use Rattle.std.proofs.lemmas.List.{take_all, take_more}
use Rattle.std.specs.Option.{ForSome}
use Rattle.std.specs.Prelude.{option_map}
use Rattle.block_summary.specs.Laws.{RangesWiden}
use Rattle.block_summary.specs.Ranges.{RangeOf, greater, lesser, IsRangeOf}
use Rattle.cell_types.specs.Value.{CellValue, null}
use Rattle.text_columns.specs.Bounds.{text_in_row, AreTextBounds}
use Rattle.text_columns.specs.declared.bounds.RowText.{RowText}

-- the text is that of the row
abbrev pub IsRowText : List CellValue → RowText → Type 0
IsRowText cells it = get_or cells it.row null ≡ text_in_row it

-- the range that is bounded by two texts
abbrev pub range_of_texts : Option RowText → Option RowText → ℕ → RangeOf
range_of_texts least greatest nulls = record { least = option_map text_in_row least; greatest = option_map text_in_row greatest; null_count = nulls }

-- the bounds of the rows so far
pub record AreBoundsSoFar (cells : List CellValue) (least greatest : Option RowText) (nulls row : ℕ) : Type 0 where
  pub low : ForSome least (IsRowText cells)
  pub high : ForSome greatest (IsRowText cells)
  pub range : IsRangeOf (range_of_texts least greatest nulls) (take row cells)
  pub few : nulls ≤ row

some-row : (cells : List CellValue) (it : RowText) → IsRowText cells it → ForSome (Some it) (IsRowText cells)
some-row cells it is x e = let same : it ≡ x = cc in subst (IsRowText cells) same is

no-row : (cells : List CellValue) → ForSome None (IsRowText cells)
no-row cells x e = absurd (cc)

one-of : (cells : List CellValue) (old : Option RowText) (new got : RowText) → ForSome old (IsRowText cells) → IsRowText cells new → (got ≡ new) ⊎ (Some got ≡ old) → IsRowText cells got
one-of cells old new got olds news (inl is) = subst (IsRowText cells) (sym is) news
one-of cells None new got olds news (inr is) = absurd (cc)
one-of cells (Some it) new got olds news (inr is) = let same : it ≡ got = cc in subst (IsRowText cells) same (olds it refl)

pub text-more : RangesWiden → (cells : List CellValue) (least greatest : Option RowText) (nulls row : ℕ) (new low high : RowText) → row < length cells → IsRowText cells new → new.row ≡ row
    → text_in_row low ≡ lesser (option_map text_in_row least) (text_in_row new) → (low ≡ new) ⊎ (Some low ≡ least)
    → text_in_row high ≡ greater (option_map text_in_row greatest) (text_in_row new) → (high ≡ new) ⊎ (Some high ≡ greatest)
    → AreBoundsSoFar cells least greatest nulls row → AreBoundsSoFar cells (Some low) (Some high) nulls (row + 1)
text-more law cells least greatest nulls row new low high lt that here is among is' among' so_far = record {
  low = some-row cells low (one-of cells least new low so_far.low that among);
  high = some-row cells high (one-of cells greatest new high so_far.high that among');
  range =
      let at : get_or cells row null ≡ text_in_row new = ap (λ r. get_or cells r null) (sym here) ∙ that in
      let more = law.more (range_of_texts least greatest nulls) (take row cells) (text_in_row new) so_far.range in
      let front : take (row + 1) cells ≡ take row cells ++ text_in_row new ∷ [] = take_more cells row null lt ∙ ap (λ v. take row cells ++ v ∷ []) at in
      let lows : Some (lesser (option_map text_in_row least) (text_in_row new)) ≡ Some (text_in_row low) = ap Some (sym is) in
      let highs : Some (greater (option_map text_in_row greatest) (text_in_row new)) ≡ Some (text_in_row high) = ap Some (sym is') in
      subst (IsRangeOf (range_of_texts (Some low) (Some high) nulls)) (sym front)
      (subst (λ h. IsRangeOf (record { least = Some (text_in_row low); greatest = h; null_count = nulls }) (take row cells ++ text_in_row new ∷ [])) highs
      (subst (λ l. IsRangeOf (record { least = l; greatest = Some (greater (option_map text_in_row greatest) (text_in_row new)); null_count = nulls }) (take row cells ++ text_in_row new ∷ [])) lows more));
  few = omega (arith, so_far.few);
}

pub null-more : RangesWiden → (cells : List CellValue) (least greatest : Option RowText) (nulls row : ℕ) → row < length cells → get_or cells row null ≡ null
    → AreBoundsSoFar cells least greatest nulls row → AreBoundsSoFar cells least greatest (nulls + 1) (row + 1)
null-more law cells least greatest nulls row lt at so_far = record {
  low = so_far.low;
  high = so_far.high;
  range = subst (IsRangeOf (range_of_texts least greatest (nulls + 1))) (sym (take_more cells row null lt ∙ ap (λ v. take row cells ++ v ∷ []) at))
      (law.more (range_of_texts least greatest nulls) (take row cells) null so_far.range);
  few = omega (arith, so_far.few);
}

-- the same of what the variables hold then
pub step-text : RangesWiden → (cells : List CellValue) (least greatest : Option RowText) (nulls row : ℕ) (new low high : RowText) (least' greatest' : Option RowText) (nulls' : ℕ)
    → least' ≡ Some low → greatest' ≡ Some high → nulls' ≡ nulls → row < length cells → IsRowText cells new → new.row ≡ row
    → text_in_row low ≡ lesser (option_map text_in_row least) (text_in_row new) → (low ≡ new) ⊎ (Some low ≡ least)
    → text_in_row high ≡ greater (option_map text_in_row greatest) (text_in_row new) → (high ≡ new) ⊎ (Some high ≡ greatest)
    → AreBoundsSoFar cells least greatest nulls row → AreBoundsSoFar cells least' greatest' nulls' (row + 1)
step-text law cells least greatest nulls row new low high least' greatest' nulls' l g n lt that here is among is' among' so_far =
    subst (λ x. AreBoundsSoFar cells x greatest' nulls' (row + 1)) (sym l)
    (subst (λ x. AreBoundsSoFar cells (Some low) x nulls' (row + 1)) (sym g)
    (subst (λ x. AreBoundsSoFar cells (Some low) (Some high) x (row + 1)) (sym n)
    (text-more law cells least greatest nulls row new low high lt that here is among is' among' so_far)))

pub step-null : RangesWiden → (cells : List CellValue) (least greatest : Option RowText) (nulls row : ℕ) (least' greatest' : Option RowText) (nulls' : ℕ)
    → least' ≡ least → greatest' ≡ greatest → nulls' ≡ nulls + 1 → row < length cells → get_or cells row null ≡ null
    → AreBoundsSoFar cells least greatest nulls row → AreBoundsSoFar cells least' greatest' nulls' (row + 1)
step-null law cells least greatest nulls row least' greatest' nulls' l g n lt at so_far =
    subst (λ x. AreBoundsSoFar cells x greatest' nulls' (row + 1)) (sym l)
    (subst (λ x. AreBoundsSoFar cells least x nulls' (row + 1)) (sym g)
    (subst (λ x. AreBoundsSoFar cells least greatest x (row + 1)) (sym n)
    (null-more law cells least greatest nulls row lt at so_far)))

pub bounds-start : RangesWiden → (cells : List CellValue) → AreBoundsSoFar cells None None 0 0
bounds-start law cells = record { low = no-row cells; high = no-row cells; range = law.start; few = omega arith }

-- the cell of the row is that of the text
cell-of-row : (cells : List CellValue) (found : Option RowText) → ForSome found (IsRowText cells)
    → option_map text_in_row found ≡ option_map (λ row. get_or cells row null) (option_map (λ (it : RowText). it.row) found)
cell-of-row cells None is = refl
cell-of-row cells (Some it) is = ap Some (sym (is it refl))

pub bounds-end : (cells : List CellValue) (least greatest : Option RowText) (nulls row : ℕ) (low high : Option ℕ) → length cells ≤ row
    → low ≡ option_map (λ (it : RowText). it.row) least → high ≡ option_map (λ (it : RowText). it.row) greatest
    → AreBoundsSoFar cells least greatest nulls row → AreTextBounds cells (record { least = low; greatest = high; null_count = nulls })
bounds-end cells least greatest nulls row low high all is is' so_far =
    let lows : option_map text_in_row least ≡ option_map (λ row. get_or cells row null) low = cell-of-row cells least so_far.low ∙ ap (option_map (λ row. get_or cells row null)) (sym is) in
    let highs : option_map text_in_row greatest ≡ option_map (λ row. get_or cells row null) high = cell-of-row cells greatest so_far.high ∙ ap (option_map (λ row. get_or cells row null)) (sym is') in
    let whole : IsRangeOf (range_of_texts least greatest nulls) cells = subst (IsRangeOf (range_of_texts least greatest nulls)) (take_all row cells all) so_far.range in
    subst (λ h. IsRangeOf (record { least = option_map (λ row. get_or cells row null) low; greatest = h; null_count = nulls }) cells) highs
    (subst (λ l. IsRangeOf (record { least = l; greatest = option_map text_in_row greatest; null_count = nulls }) cells) lows whole)
