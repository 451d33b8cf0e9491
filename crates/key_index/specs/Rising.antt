-- Keys of one integer each that rise from row to row.
use Rattle.std.specs.Prelude.{◌≡◌, ◌<◌, ◌<ℤ◌, ℕ, ℤ, pos, List, [], ◌∷◌}
use Rattle.key_index.specs.declared.rising.Rise.{Rise}
use Rattle.cell_types.specs.Value.{CellValue, integer}

-- the number of a key that is one integer
abbrev pub key_number : List CellValue → ℤ
key_number (integer z ∷ []) = z
key_number key = pos 0

-- the keys of the rows below a count are one integer each, and each is above the one before it
pub record AreRising (key_at : ℕ → List CellValue) (count : ℕ) : Type 0 where
  pub are : (row : ℕ) → row < count → key_at row ≡ integer (key_number (key_at row)) ∷ []
  pub rise : (a b : ℕ) → a < b → b < count → key_number (key_at a) <ℤ key_number (key_at b)

-- they rise up to a row, and none is above the last
pub record Rises (key_at : ℕ → List CellValue) (rise : Rise) : Type 0 where
  pub rising : AreRising key_at rise.row
  pub below : (k : ℕ) → k < rise.row → rise.last <ℤ key_number (key_at k) → ⊥
