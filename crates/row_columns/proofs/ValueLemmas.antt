-- Rows that are kept as values, one after another.
use Rattle.std.proofs.Common.{◌≡◌, ℕ, zero, suc, ◌+◌, ◌-◌, ◌<◌, ◌≤◌, List, [], ◌∷◌, length, map, get_or, replicate, sym, ap, ◌∙◌, arith}
use Rattle.std.specs.List.{AllByRecursion}
use Rattle.std.proofs.lemmas.List.{get_or-map, length-map, length-replicate}
use Rattle.std.proofs.lemmas.List.Elements.{All-from_recursion}
use Rattle.cell_types.specs.Value.{CellValue}
use Rattle.value_rows.specs.ValueRows.{ValueRowsOf}
use Rattle.row_columns.specs.Kinds.{any}
use Rattle.row_columns.specs.Numbers.{numbers_from}
use Rattle.row_columns.specs.Part.{AreRowsFrom}
use Rattle.row_selection.proofs.NumberLemmas.{get-from, length-from}

-- rows with numbers that follow on one another are those from one on
pub rows_of_values : (values : ValueRowsOf) (numbers : List ℕ) (first n row at : ℕ) → numbers ≡ numbers_from first n → AllByRecursion (λ (number : ℕ). number < length values.rows) numbers
    → row < length numbers → at ≡ get_or numbers row 0
    → AreRowsFrom row (record { kinds = replicate values.width any; rows = map (λ number. get_or values.rows number []) numbers }) values at
rows_of_values values numbers first n row at are within inside is =
    let long : length numbers ≡ n = ap length are ∙ length-from first n in
    let rows : length (map (λ number. get_or values.rows number []) numbers) ≡ n = length-map numbers (λ number. get_or values.rows number []) ∙ long in
    let number : (i : ℕ) → i < n → get_or numbers i 0 ≡ first + i = λ i less. ap (λ ns. get_or ns i 0) are ∙ get-from first n i less in
    let here : at ≡ first + row = is ∙ number row (omega (arith, inside, long)) in
    let last : get_or numbers (n - 1) 0 < length values.rows = All-from_recursion (λ (k : ℕ). k < length values.rows) numbers within (n - 1) 0 (omega (arith, inside, long)) in
    record {
      wide = sym (length-replicate values.width any);
      long = omega (arith, rows, here, last, number (n - 1) (omega (arith, inside, long)), inside, long);
      same = λ i less.
          let its : get_or numbers (row + i) 0 ≡ at + i = number (row + i) (omega (arith, less, rows)) ∙ omega (arith, here) in
          sym (get_or-map (λ number. get_or values.rows number []) numbers (row + i) 0 [] (omega (arith, less, rows, long)) ∙ ap (λ k. get_or values.rows k []) its);
    }
