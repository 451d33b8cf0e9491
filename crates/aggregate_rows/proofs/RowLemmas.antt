-- The rows with some numbers, and the values that they have in a column.
use Rattle.std.proofs.Common.{◌≡◌, ℕ, zero, suc, ◌+◌, ◌-◌, ◌++◌, ◌<◌, ◌≤◌, Some, List, [], ◌∷◌, length, map, take, drop, get_or, ap, ◌∙◌, arith, refl}
use Rattle.std.specs.Prelude.{option_and_then, slice_get, slice_index_or}
use Rattle.std.proofs.Math.Seq.{drop-cons}
use Rattle.std.proofs.lemmas.List.{map-append, map_more}
use Rattle.std.proofs.lemmas.Option.{get_or_from_slice_get}
use Rattle.cell_types.specs.Value.{CellValue, null, value_view}
use Rattle.cell_types.specs.declared.value.Value.{Value}
use Rattle.query_meaning.specs.Apply.{value_at, values_at}
use Rattle.row_columns.specs.Picked.{numbered}

-- the value of a row and a column is that of the row with that number
pub cell_there : (rows : List (List CellValue)) (number place : ℕ) (value : CellValue)
    → option_and_then (λ values. slice_get values place) (slice_get rows number) ≡ Some value → slice_get (slice_index_or rows number []) place ≡ Some value
cell_there [] number place value e = absurd (cc)
cell_there (row ∷ rows) zero place value e = e
cell_there (row ∷ rows) (suc number) place value e = cell_there rows number place value e

pub value_there : (rows : List (List CellValue)) (number place : ℕ) (value : CellValue)
    → option_and_then (λ values. slice_get values place) (slice_get rows number) ≡ Some value → value_at (slice_index_or rows number []) place ≡ value
value_there rows number place value e = get_or_from_slice_get (slice_index_or rows number []) place value null (cell_there rows number place value e)

-- one row more, in front of those that were read from the last on
pub row_before : (rows : List (List CellValue)) (numbers : List ℕ) (i : ℕ) → 0 < i → i ≤ length numbers
    → numbered (drop (i - 1) numbers) rows ≡ slice_index_or rows (get_or numbers (i - 1) 0) [] ∷ numbered (drop i numbers) rows
row_before rows numbers i some within =
    let next : suc (i - 1) ≡ i = omega arith in
    ap (λ ns. numbered ns rows) (drop-cons numbers (i - 1) 0 (omega arith)) ∙ ap (λ k. slice_index_or rows (get_or numbers (i - 1) 0) [] ∷ numbered (drop k numbers) rows) next

-- the values of a row in the columns with some places, and in one column more
pub key_more : (rows : List (List CellValue)) (number : ℕ) (places : List ℕ) (i : ℕ) (key : List Value) (value : Value) {next : List Value} → i < length places
    → option_and_then (λ values. slice_get values (get_or places i 0)) (slice_get rows number) ≡ Some (value_view value) → next ≡ key ++ value ∷ []
    → map value_view key ≡ values_at (take i places) (slice_index_or rows number []) → map value_view next ≡ values_at (take (i + 1) places) (slice_index_or rows number [])
key_more rows number places i key value less at e so_far =
    rw (e, map-append value_view key (value ∷ []), so_far, map_more (value_at (slice_index_or rows number [])) places i 0 less)
    (rw (value_there rows number (get_or places i 0) (value_view value) at) refl)
