-- Crates above may cite this file: rows after values.
use Rattle.std.proofs.Common.{◌≡◌, ℕ, zero, suc, ◌+◌, ◌-◌, ◌<◌, ◌≤◌, Some, List, [], ◌∷◌, ◌++◌, length, get_or, refl, sym, subst, ap, ◌∙◌, arith}
use Rattle.std.specs.Prelude.{slice_get}
use Rattle.std.proofs.lemmas.Option.{get_or_from_slice_get, slice_get-get_or}
use Rattle.cell_types.specs.Value.{CellValue, null}
use Rattle.order_columns.specs.Items.{extended, extended_from, values_before, ItemRows}

pub extended_long : (values : List (List CellValue)) (n : ℕ) (rows : List (List CellValue)) → length (extended_from values n rows) ≡ length rows
extended_long values n [] = refl
extended_long values n (row ∷ rows) = ap suc (extended_long values (suc n) rows)

-- there are none
extended_by_none : (n : ℕ) (rows : List (List CellValue)) → extended_from [] n rows ≡ rows
extended_by_none n [] = refl
extended_by_none n (row ∷ rows) = ap (λ rs. row ∷ rs) (extended_by_none (suc n) rows)

pub extended_none : (rows : List (List CellValue)) → extended [] rows ≡ rows
extended_none rows = extended_by_none 0 rows

-- the row with a number
row_from : (values : List (List CellValue)) (n : ℕ) (rows : List (List CellValue)) (i : ℕ) → i < length rows
    → get_or (extended_from values n rows) i [] ≡ values_before values (n + i) ++ get_or rows i []
row_from values n [] i h = absurd (omega (arith, h))
row_from values n (row ∷ rows) zero h = let same : n ≡ n + 0 = omega arith in ap (λ k. values_before values k ++ row) same
row_from values n (row ∷ rows) (suc i) h =
    let same : suc n + i ≡ n + suc i = omega arith in
    row_from values (suc n) rows i (omega (arith, h)) ∙ ap (λ k. values_before values k ++ get_or rows i []) same

pub extended_at : (values rows : List (List CellValue)) (i : ℕ) → i < length rows → get_or (extended values rows) i [] ≡ values_before values i ++ get_or rows i []
extended_at values rows i h = let same : 0 + i ≡ i = omega arith in row_from values 0 rows i h ∙ ap (λ k. values_before values k ++ get_or rows i []) same

-- the value at a place: among the values, or after them
pub value_before : (values : List (List CellValue)) (n : ℕ) (row : List CellValue) (place : ℕ) (d : List CellValue) → place < length values
    → get_or (values_before values n ++ row) place null ≡ get_or (get_or values place d) n null
value_before [] n row place d h = absurd (omega (arith, h))
value_before (v ∷ values) n row zero d h = refl
value_before (v ∷ values) n row (suc place) d h = value_before values n row place d (omega (arith, h))

pub value_after : (values : List (List CellValue)) (n : ℕ) (row : List CellValue) (place : ℕ) → length values ≤ place
    → get_or (values_before values n ++ row) place null ≡ get_or row (place - length values) null
value_after [] n row place h = let same : place ≡ place - 0 = omega arith in ap (λ p. get_or row p null) same
value_after (v ∷ values) n row zero h = absurd (omega (arith, h))
value_after (v ∷ values) n row (suc place) h =
    let same : place - length values ≡ suc place - length (v ∷ values) = omega arith in
    value_after values n row place (omega (arith, h)) ∙ ap (λ p. get_or row p null) same

-- ---- a value of the rows, by the columns of values and those of a table

module _ (values rows : List (List CellValue)) (number place : ℕ) (h : number < length rows) where
  abbrev all : List (List CellValue)
  all = extended values rows

  here : get_or (get_or all number []) place null ≡ get_or (values_before values number ++ get_or rows number []) place null
  here = ap (λ row. get_or row place null) (extended_at values rows number h)

  -- among the first
  pub kept_there : (column : List CellValue) → place < length values → column ≡ get_or values place column → get_or (get_or all number []) place null ≡ get_or column number null
  kept_there column within at = here ∙ value_before values number (get_or rows number []) place column within ∙ ap (λ v. get_or v number null) (sym at)

  -- or after them
  pub table_there : length values ≤ place → get_or (get_or all number []) place null ≡ get_or (get_or rows number []) (place - length values) null
  table_there past = here ∙ value_after values number (get_or rows number []) place past

pub within_rows : (values rows : List (List CellValue)) (seen : ItemRows) (number : ℕ) → record { rows = extended values rows } ≡ seen → number < length seen.rows → number < length rows
within_rows values rows seen number is h =
    subst (λ n. number < n) (ap (λ (r : ItemRows). length r.rows) (sym is) ∙ extended_long values 0 rows) h

-- a row of values and the row of the table after it
pub row_joined : (values rows : List (List CellValue)) (number : ℕ) (front others : List CellValue) → number < length rows → front ≡ values_before values number
    → slice_get rows number ≡ Some others → slice_get (extended values rows) number ≡ Some (front ++ others)
row_joined values rows number front others h is at =
    let long = extended_long values 0 rows in
    slice_get-get_or (extended values rows) number [] (omega (arith, h, long))
    ∙ ap (λ r. Some r) (extended_at values rows number h ∙ ap (λ r. values_before values number ++ r) (get_or_from_slice_get rows number others [] at) ∙ ap (λ l. l ++ others) (sym is))
