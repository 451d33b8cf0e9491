-- Crates above may cite this file. The values of the rows of a file.
use Rattle.std.proofs.Common.{◌≡◌, ◌≤◌, List, [], ◌∷◌, length, ◌∙◌, arith}
use Rattle.std.specs.List.{zip, AllByRecursion}
use Rattle.std.proofs.lemmas.List.{length-map}
use Rattle.std.proofs.lemmas.Slice.Zip.{length-zip}
use Rattle.csv_grammar.specs.Raw.{RawField}
use Rattle.cell_types.specs.Column.{ColumnOf}
use Rattle.csv_fields.specs.Values.{rows_in, value_or_null, value_in, values_in}

pub length-rows_in : (columns : List ColumnOf) (rows : List (List RawField)) → length (rows_in columns rows) ≡ length rows
length-rows_in columns rows = length-map rows (values_in columns)

-- a row of enough fields has a value for each column
pub length-values_in : (columns : List ColumnOf) (fields : List RawField) → length columns ≤ length fields → length (values_in columns fields) ≡ length columns
length-values_in columns fields h =
    let pairs : length (zip columns fields) ≡ length columns = omega (arith, length-zip columns fields) in
    length-map (zip columns fields) (λ pair. value_or_null (value_in pair)) ∙ pairs

-- so does each of such rows
pub rows-wide : (columns : List ColumnOf) (rows : List (List RawField)) → AllByRecursion (λ fields. length fields ≡ length columns) rows
    → AllByRecursion (λ values. length values ≡ length columns) (rows_in columns rows)
rows-wide columns [] wide = tt
rows-wide columns (fields ∷ rows) wide = (length-values_in columns fields (omega (arith, wide.0)), rows-wide columns rows wide.1)
