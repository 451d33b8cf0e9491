-- Sums of the numbers of a column as a block keeps them.
use Rattle.std.proofs.Common.{◌≡◌, ℕ, ℤ, zero, suc, ◌+◌, ◌≤◌, ◌+ℤ◌, Bool, true, false, cond, Option, Some, None, List, [], ◌∷◌, length, get_or, count_by, refl, sym, ap, ◌∙◌, arith}
use Rattle.std.specs.List.{cons_option, filter_map}
use Rattle.std.proofs.lemmas.Bool.{false≢true}
use Rattle.std.proofs.lemmas.List.{length-map}
use Rattle.std.proofs.lemmas.List.Sums.{count_by-le-length, sum_by-cons}
use Rattle.std.proofs.Math.ListN.{get_or-map as get_or-map_default}
use Rattle.block_summary.specs.Ranges.{column_of, is_null}
use Rattle.block_summary.specs.Sums.{number_sum}
use Rattle.cell_types.specs.Kind.{cell_of, number_of, typed_cell}
use Rattle.block_summary.specs.Types.{cells_of_kind, numbers_of}
use Rattle.cell_types.specs.declared.kind.NumberKind.{NumberKind}
use Rattle.cell_types.specs.declared.kind.NumberKind.TheVariants.{Integer, Decimal, Boolean, Date}
use Rattle.cell_types.specs.Value.{CellValue, null}
use Rattle.query_meaning.specs.Apply.{integer_sum}
use Rattle.row_columns.specs.Picked.{numbered}
use Rattle.row_eval.specs.Row.{cell, number_in}
use Rattle.row_codes.specs.Kept.{IsKeptAs}
use Rattle.row_codes.proofs.KeptLaws.{cell_is, value_here}
use Rattle.aggregate_rows.specs.Sums.{numbers_at, numbers_in, sum_of}

-- ---- numbers and nulls

null_more : (v : CellValue) (vs : List CellValue) → count_by is_null (v ∷ vs) ≡ cond (is_null v) 1 0 + count_by is_null vs
null_more v vs = sum_by-cons (λ x. cond (is_null x) 1 0) v vs

-- the number of a kind in the cell that a number stands for is the number of that cell
number_read : (kind : NumberKind) (o : Option ℤ) → number_in kind (cell_of kind o) ≡ number_of (cell_of kind o)
number_read Integer None = refl
number_read Integer (Some n) = refl
number_read kind None = refl
number_read Decimal (Some n) = refl
number_read Boolean (Some n) = refl
number_read Date (Some n) = refl

cells_read : (kind : NumberKind) (ns : List (Option ℤ)) → filter_map (number_in kind) (cells_of_kind kind ns) ≡ filter_map number_of (cells_of_kind kind ns)
cells_read kind [] = refl
cells_read kind (n ∷ ns) = rw (number_read kind n, cells_read kind ns) refl

sum_more : (o : Option ℤ) (ns : List (Option ℤ)) (xs : List ℤ) → number_sum ns ≡ integer_sum xs → number_sum (o ∷ ns) ≡ integer_sum (cons_option o xs)
sum_more None ns xs e = e
sum_more (Some n) ns xs e = ap (λ s. n +ℤ s) e

sum_is : (cells : List CellValue) → number_sum (numbers_of cells) ≡ integer_sum (filter_map number_of cells)
sum_is [] = refl
sum_is (v ∷ vs) = sum_more (number_of v) (numbers_of vs) (filter_map number_of vs) (sum_is vs)

null_has_none : (v : CellValue) → is_null v ≡ true → number_of v ≡ None
null_has_none null e = refl
null_has_none v e = absurd (false≢true e)

all_counted : (b : Bool) (count long : ℕ) → count ≤ long → cond b 1 0 + count ≡ long + 1 → (b ≡ true) × (count ≡ long)
all_counted true count long most e = (refl, omega (arith, e))
all_counted false count long most e = absurd (omega (arith, most, e))

none_left : (cells : List CellValue) → count_by is_null cells ≡ length cells → filter_map number_of cells ≡ []
none_left [] e = refl
none_left (v ∷ vs) e =
    let all = all_counted (is_null v) (count_by is_null vs) (length vs) (count_by-le-length is_null vs) (sym (null_more v vs) ∙ omega (arith, e)) in
    rw (null_has_none v all.0) (none_left vs all.1)

some_number : (kind : NumberKind) (n : ℤ) → (m : ℤ) × (number_of (typed_cell kind n) ≡ Some m)
some_number Integer n = (_, refl)
some_number kind n = (_, refl)

all_null : (kind : NumberKind) (ns : List (Option ℤ)) → filter_map number_of (cells_of_kind kind ns) ≡ [] → count_by is_null (cells_of_kind kind ns) ≡ length ns
all_null kind [] e = refl
all_null kind (None ∷ ns) e = omega (arith, null_more null (cells_of_kind kind ns), all_null kind ns e)
all_null kind (Some n ∷ ns) e = let number = some_number kind n in absurd (cc (rw number.1 at e))

some_sum : (ns : List ℤ) → (ns ≡ [] → ⊥) → sum_of ns ≡ Some (integer_sum ns)
some_sum [] some = absurd (some refl)
some_sum (n ∷ ns) some = refl

-- ---- rows are read by their column

cell_read : (kind : NumberKind) (row : List CellValue) (place : ℕ) → cell (number_in kind) row place ≡ number_in kind (get_or row place null)
cell_read Integer [] place = refl
cell_read kind [] place = refl
cell_read kind (v ∷ row) zero = refl
cell_read kind (v ∷ row) (suc place) = cell_read kind row place

column_read : (kind : NumberKind) (place : ℕ) (rows : List (List CellValue)) → numbers_in kind place rows ≡ filter_map (number_in kind) (column_of rows place)
column_read kind place [] = refl
column_read kind place (row ∷ rows) = rw (cell_read kind row place, column_read kind place rows) refl

-- ---- the sum of a whole column

module _ (kind : NumberKind) (cells : List CellValue) (typed : cells_of_kind kind (numbers_of cells) ≡ cells) where
  kept_numbers : filter_map (number_in kind) cells ≡ filter_map number_of cells
  kept_numbers = ap (filter_map (number_in kind)) (sym typed) ∙ cells_read kind (numbers_of cells) ∙ ap (filter_map number_of) typed

  pub no_whole_sum : count_by is_null cells ≡ length cells → None ≡ sum_of (filter_map (number_in kind) cells)
  no_whole_sum count = sym (ap sum_of (kept_numbers ∙ none_left cells count))

  pub whole_sum : (count_by is_null cells ≡ length cells → ⊥) → Some (number_sum (numbers_of cells)) ≡ sum_of (filter_map (number_in kind) cells)
  whole_sum other =
      let some : filter_map number_of cells ≡ [] → ⊥ = λ none.
      other (ap (count_by is_null) (sym typed) ∙ all_null kind (numbers_of cells) (ap (filter_map number_of) typed ∙ none) ∙ length-map cells number_of) in
      ap Some (sum_is cells) ∙ sym (some_sum (filter_map number_of cells) some) ∙ ap sum_of (sym kept_numbers)

-- ---- and of some rows

module _ (kind : NumberKind) (place : ℕ) (rows : List (List CellValue)) (cells : List CellValue) (kept : IsKeptAs kind place rows cells) where
  pub whole_numbers : filter_map (number_in kind) cells ≡ numbers_in kind place rows
  whole_numbers = ap (filter_map (number_in kind)) kept.column ∙ sym (column_read kind place rows)

  number_here : (n : ℕ) → cell (number_in kind) (get_or rows n []) place ≡ get_or (numbers_of cells) n None
  number_here n =
      let none : List CellValue = [] in
      cell_read kind (get_or rows n none) place ∙ ap (number_in kind) (value_here kind place rows cells kept n)
      ∙ number_read kind (get_or (numbers_of cells) n None) ∙ ap number_of (sym (cell_is kind place rows cells kept n))
      ∙ sym (get_or-map_default number_of cells n null)

  pub part_numbers : (numbers : List ℕ) → numbers_in kind place (numbered numbers rows) ≡ numbers_at cells numbers
  part_numbers [] = refl
  part_numbers (n ∷ numbers) = rw (number_here n, part_numbers numbers) refl
