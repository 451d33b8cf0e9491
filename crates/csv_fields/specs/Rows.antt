-- Rows of fields.
use Rattle.std.specs.Prelude.{ℕ, zero, suc, List, [], ◌∷◌, take, drop, slice_get, Option, option_and_then}
use Rattle.csv_grammar.specs.Raw.{RawField}

-- the field of a row and a column
abbrev pub cell_at : List (List RawField) → ℕ → ℕ → Option RawField
cell_at rows row col = option_and_then (λ fields. slice_get fields col) (slice_get rows row)

-- fields cut into rows of one width
abbrev pub rows_cut : ℕ → ℕ → List RawField → List (List RawField)
rows_cut zero width fields = []
rows_cut (suc n) width fields = take width fields ∷ rows_cut n width (drop width fields)
