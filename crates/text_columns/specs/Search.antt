-- Texts in which a part stands (OData 4.01 URL Conventions, section 5.1.1.5.1).
use Rattle.std.specs.Prelude.{◌≡◌, ◌↔◌, ◌<◌, ◌≤◌, ℕ, Bool, true, false, List, length, slice_index_or, slice_range}
use Rattle.memchr.specs.Find.{OccursAt}
use Rattle.cell_types.specs.Value.{CellValue, null, text}
use Rattle.text_columns.specs.Texts.{text_unless_null, start_from}

-- the bytes of the part stand somewhere in the text
abbrev pub HasPart : List ℕ → List ℕ → Type 0
HasPart part t = (place : ℕ) × OccursAt t part place

-- each text of the cells from one to another stands somewhere in these bytes
abbrev pub HaveTexts : List ℕ → List CellValue → ℕ → ℕ → Type 0
HaveTexts bytes cells first last = (row : ℕ) (t : List ℕ) → first ≤ row → row ≤ last → slice_index_or cells row null ≡ text t → HasPart t bytes

-- the cell is a text in which the part stands
abbrev pub CellHasPart : List ℕ → CellValue → Type 0
CellHasPart part (text t) = HasPart part t
CellHasPart part _ = ⊥

-- the rows are marked in whose text the part stands
pub record AreMarksOfPart (part : List ℕ) (cells : List CellValue) (marks : List Bool) : Type 0 where
  pub long : length marks ≡ length cells
  pub each : (row : ℕ) → row < length cells → (slice_index_or marks row false ≡ true) ↔ CellHasPart part (slice_index_or cells row null)

-- the cell of a row of texts that end at these places
abbrev pub row_cell : List Bool → List ℕ → List ℕ → ℕ → CellValue
row_cell nulls ends bytes row = text_unless_null (slice_index_or nulls row false) (slice_range bytes (start_from 0 ends row) (slice_index_or ends row 0))

-- a row is marked just where the part stands in its text
abbrev pub IsRight : List Bool → List ℕ → List ℕ → List ℕ → List Bool → ℕ → Type 0
IsRight nulls ends bytes part marks row = (slice_index_or marks row false ≡ true) ↔ CellHasPart part (row_cell nulls ends bytes row)
