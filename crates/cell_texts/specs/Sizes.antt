-- Sizes to which others are added.
use Rattle.std.specs.Prelude.{◌≡◌, ◌+◌, ◌<◌, ℕ, Bool, true, false, IsTrue, List, [], get_or, length}
use Rattle.std.specs.List.{flat_map}
use Rattle.cell_types.specs.Value.{CellValue, null}
use Rattle.reply_values.specs.Printed.{is_plain_text, printed_text}
use Rattle.reply_values.specs.Size.{told}

-- to each size is added that of the text of its cell
pub record AreCellsCounted (text : CellValue → List ℕ) (cells : List CellValue) (old new : List ℕ) : Type 0 where
  pub long : length new ≡ length old
  pub each : (i : ℕ) → i < length old → get_or new i 0 ≡ told (get_or old i 0 + length (text (get_or cells i null)))

-- the same of cells by their place
pub record AreCellsCountedAt (text : CellValue → List ℕ) (cell : ℕ → CellValue) (old new : List ℕ) : Type 0 where
  pub long : length new ≡ length old
  pub each : (i : ℕ) → i < length old → get_or new i 0 ≡ told (get_or old i 0 + length (text (cell i)))

-- either that, or all sizes are as they were
abbrev pub IsCountedIf : Bool → (CellValue → List ℕ) → (ℕ → CellValue) → List ℕ → List ℕ → Type 0
IsCountedIf true text cell old new = AreCellsCountedAt text cell old new
IsCountedIf false text cell old new = new ≡ old

-- to each size is added that of a text of that length, each byte of which stands for itself
abbrev pub ArePlainCounted : Bool → List ℕ → List ℕ → List ℕ → Type 0
ArePlainCounted json lengths old new = (i : ℕ) → i < length old → (t : List ℕ) → get_or lengths i 0 ≡ length t → IsTrue (is_plain_text json t)
    → get_or new i 0 ≡ told (get_or old i 0 + length (printed_text json t))

-- the same of the cells of a list from one on
pub record AreCellsCountedFrom (text : CellValue → List ℕ) (first : ℕ) (cells : List CellValue) (old new : List ℕ) : Type 0 where
  pub long : length new ≡ length old
  pub each : (i : ℕ) → i < length old → get_or new i 0 ≡ told (get_or old i 0 + length (text (get_or cells (first + i) null)))

-- these are the sizes of the rows from one on, each of which takes `frame` bytes without its values
abbrev pub AreRowsCounted : (CellValue → List ℕ) → List (List CellValue) → ℕ → ℕ → List ℕ → Type 0
AreRowsCounted text rows first frame sizes =
    (i : ℕ) → i < length sizes → get_or sizes i 0 ≡ told (frame + length (flat_map text (get_or rows (first + i) [])))
