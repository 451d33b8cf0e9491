-- Parts of a block's texts each byte of which stands for itself, in JSON or in CSV.
use Rattle.std.specs.Prelude.{◌≡◌, ℕ, ◌/◌, ◌+◌, ◌<◌, ◌≤◌, Bool, true, false, List, Option, None, Some, IsTrue, slice_index_or}
use Rattle.cell_types.specs.Value.{CellValue, null, text}
use Rattle.reply_values.specs.Printed.{is_plain_text}
use Rattle.text_columns.specs.declared.plain.PlainParts.{PlainParts}

-- no byte of a text of a part of 64 rows that is marked stands for another
abbrev pub ArePlainParts : Bool → List CellValue → List Bool → Type 0
ArePlainParts json cells marks = (row : ℕ) (t : List ℕ) → slice_index_or cells row null ≡ text t → slice_index_or marks (row / 64) false ≡ true → IsTrue (is_plain_text json t)

pub record HavePlainParts (cells : List CellValue) (parts : PlainParts) : Type 0 where
  pub json : ArePlainParts true cells parts.json
  pub csv : ArePlainParts false cells parts.csv

-- where anything is known of the parts
abbrev pub HaveKnownParts : List CellValue → Option PlainParts → Type 0
HaveKnownParts cells None = Unit {0}
HaveKnownParts cells (Some parts) = HavePlainParts cells parts

-- no byte of a text stands for another
abbrev pub IsPlainCell : Bool → CellValue → Type 0
IsPlainCell json cell = (t : List ℕ) → cell ≡ text t → IsTrue (is_plain_text json t)

-- no byte of the texts of these rows does
abbrev pub ArePlainRows : Bool → List CellValue → ℕ → ℕ → Type 0
ArePlainRows json cells first count = (row : ℕ) (t : List ℕ) → first ≤ row → row < first + count → slice_index_or cells row null ≡ text t → IsTrue (is_plain_text json t)
