-- What is shown, piece by piece.
use Rattle.std.specs.Prelude.{◌≡◌, ℕ, List, ◌++◌, false}
use Rattle.catalog_sheet.specs.declared.sheet.Sheet.{Sheet}

-- a text is added: where memory has not run out after it, it had not before, and the text stands after the others
abbrev pub IsLongerBy : Sheet → Sheet → List ℕ → Type 0
IsLongerBy old new text = new.is_short ≡ false → (old.is_short ≡ false) × (new.bytes.items ≡ old.bytes.items ++ text)
