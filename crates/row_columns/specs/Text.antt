-- The text of a value.
use Rattle.std.specs.Prelude.{ℕ, List, Option, Some, None}
use Rattle.cell_types.specs.Value.{CellValue, text}

-- the text, where the value is one
abbrev pub text_of_cell : CellValue → Option (List ℕ)
text_of_cell (text t) = Some t
text_of_cell _ = None

-- any value but a text
abbrev pub IsNoText : CellValue → Type 0
IsNoText (text t) = ⊥
IsNoText _ = Unit {0}
