-- The rows of a table (Model for Tabular Data and Metadata on the Web, section 4.4): for each column a value that it may have, and no long text.
use Rattle.std.specs.Prelude.{ℕ, ◌^◌, ◌≤◌, Bool, List, [], ◌∷◌, get_or, length, map}
use Rattle.std.specs.Cmp.Lexicographic.{pointwise}
use Rattle.cell_types.specs.Value.{CellValue, null, text, value_eq}
use Rattle.cell_types.specs.Column.{ColumnOf}
use Rattle.cell_types.specs.Laws.{IsOfColumn}

-- a text of at most 2 to the 30 bytes
abbrev pub IsShort : List ℕ → Type 0
IsShort t = length t ≤ 2 ^ 30

-- a value that is short where it is a text
abbrev pub IsShortValue : CellValue → Type 0
IsShortValue (text t) = IsShort t
IsShortValue _ = Unit {0}

-- a value for each column, one that it may have
abbrev pub IsTableRow : List ColumnOf → List CellValue → Type 0
IsTableRow [] [] = Unit {0}
IsTableRow (c ∷ cs) (v ∷ vs) = IsOfColumn c v × IsShortValue v × IsTableRow cs vs
IsTableRow _ _ = ⊥

-- the value of a row in the column with a number; null past its end
abbrev pub value_at : List CellValue → ℕ → CellValue
value_at row place = get_or row place null

-- the values of a row in some columns
abbrev pub values_at : List ℕ → List CellValue → List CellValue
values_at places row = map (value_at row) places

-- two lists of values have the same ones, in order
abbrev pub same_values : List CellValue → List CellValue → Bool
same_values a b = pointwise value_eq a b
