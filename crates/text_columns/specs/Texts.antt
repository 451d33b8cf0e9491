-- The texts of a column of a block: one stands after the other, and of each it is known where it ends.
use Rattle.std.specs.Prelude.{◌≡◌, ◌⊎◌, ◌+◌, ◌<◌, ◌≤◌, ℕ, zero, suc, Bool, true, false, List, [], ◌∷◌, IsUtf8, length, slice_index_or, slice_range}
use Rattle.std.specs.Str.{IsCharBoundary}
use Rattle.cell_types.specs.Value.{CellValue, null, text}

-- the texts that end at these places, the first of which begins at a place
abbrev pub texts_from : ℕ → List ℕ → List ℕ → List (List ℕ)
texts_from start [] bytes = []
texts_from start (end ∷ ends) bytes = slice_range bytes start end ∷ texts_from end ends bytes

-- a text, or null
abbrev pub text_unless_null : Bool → List ℕ → CellValue
text_unless_null true t = null
text_unless_null false t = text t

-- the cell of each text; none is null past the end of the marks
abbrev pub texts_unless_null : List Bool → List (List ℕ) → List CellValue
texts_unless_null nulls [] = []
texts_unless_null [] (t ∷ texts) = text t ∷ texts_unless_null [] texts
texts_unless_null (is_null ∷ nulls) (t ∷ texts) = text_unless_null is_null t ∷ texts_unless_null nulls texts

-- the cells of marks of nulls and of the texts of bytes that end at these places
abbrev pub text_block_cells : List Bool → List ℕ → List ℕ → List CellValue
text_block_cells nulls ends bytes = texts_unless_null nulls (texts_from 0 ends bytes)

-- the lengths of the texts of the rows from one on, none of which is null
abbrev pub AreTextLengths : List CellValue → ℕ → List ℕ → Type 0
AreTextLengths cells first lengths = (i : ℕ) → i < length lengths → (t : List ℕ) × (slice_index_or cells (first + i) null ≡ text t) × (slice_index_or lengths i 0 ≡ length t)

-- where the text of a row begins: where the one before it ends
abbrev pub start_from : ℕ → List ℕ → ℕ → ℕ
start_from start ends zero = start
start_from start ends (suc row) = slice_index_or ends row 0

-- no text ends before it begins
abbrev pub DoRise : List ℕ → Type 0
DoRise ends = (row : ℕ) → row < length ends → start_from 0 ends row ≤ slice_index_or ends row 0

-- how far it ends past its beginning, for as many rows from one on as there are numbers
pub record AreDistances (ends : List ℕ) (first : ℕ) (old new : List ℕ) : Type 0 where
  pub long : length new ≡ length old
  pub each : (i : ℕ) → i < length new → slice_index_or new i 0 + start_from 0 ends (first + i) ≡ slice_index_or ends (first + i) 0

-- no text ends before it begins, and none past the end of `size` bytes
abbrev pub EndsRise : List ℕ → ℕ → Type 0
EndsRise ends size = (row : ℕ) → row < length ends → (start_from 0 ends row ≤ slice_index_or ends row 0) × (slice_index_or ends row 0 ≤ size)

-- no character is cut where a text ends
abbrev pub AreBoundaries : List ℕ → List ℕ → Type 0
AreBoundaries ends bytes = (row : ℕ) → row < length ends → IsCharBoundary bytes (slice_index_or ends row 0)

-- marks of nulls of `rows` rows: none, if no row is null
abbrev pub HaveMarks : List Bool → ℕ → Type 0
HaveMarks nulls rows = (nulls ≡ []) ⊎ (length nulls ≡ rows)

-- marks of nulls that are kept in place of others
pub record AreNullMarks (nulls kept : List Bool) : Type 0 where
  pub same : (row : ℕ) → slice_index_or kept row false ≡ slice_index_or nulls row false
  pub long : HaveMarks kept (length nulls)

-- the bytes are texts that end at these places
pub record AreTextBytes (nulls : List Bool) (ends bytes : List ℕ) : Type 0 where
  pub rise : EndsRise ends (length bytes)
  pub utf8 : IsUtf8 bytes
  pub boundaries : AreBoundaries ends bytes
  pub marks : HaveMarks nulls (length ends)
