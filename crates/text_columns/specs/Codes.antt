-- Codes of the different texts of a block.
use Rattle.std.specs.Prelude.{◌≡◌, ◌<◌, ◌≤◌, ℕ, Bool, List, Option, IfSome, length, slice_index_or}
use Rattle.cell_types.specs.Value.{CellValue, null}
use Rattle.text_columns.specs.Texts.{text_block_cells, AreTextBytes}
use Rattle.text_columns.specs.declared.codes.Look.{Look}
use Rattle.text_columns.specs.declared.codes.Look.TheVariants.{Code, Free, Nothing}
use Rattle.text_columns.specs.declared.codes.TextCodes.{TextCodes}

-- each code has a row of the block
abbrev pub AreCodeRows : List ℕ → List CellValue → Type 0
AreCodeRows rows cells = (length rows ≤ 255) × ((code : ℕ) → code < length rows → slice_index_or rows code 0 < length cells)

-- the row of each code stays
abbrev pub KeepsCodes : List ℕ → List ℕ → Type 0
KeepsCodes old new = (length old ≤ length new) × ((code : ℕ) → code < length old → slice_index_or new code 0 ≡ slice_index_or old code 0)

-- the row of the code has the same cell
abbrev pub HasCode : List CellValue → List ℕ → ℕ → ℕ → Type 0
HasCode cells rows row code = (code < length rows) × (slice_index_or cells (slice_index_or rows code 0) null ≡ slice_index_or cells row null)

-- what is found for a row is its code, or a slot
abbrev pub IsLook : List CellValue → List ℕ → ℕ → Look → Type 0
IsLook cells rows row (Code code) = HasCode cells rows row code
IsLook cells rows row (Free slot) = slot < 1024
IsLook cells rows row Nothing = Unit {0}

-- each row has a code, and the row of that code the same cell
pub record AreCodes (codes : TextCodes) (cells : List CellValue) : Type 0 where
  pub long : length codes.codes.items ≡ length cells
  pub rows : AreCodeRows codes.rows.items cells
  pub each : (row : ℕ) → row < length cells → HasCode cells codes.rows.items row (slice_index_or codes.codes.items row 0)

-- the bytes are texts that end at these places, and these are their codes, where there are such
pub record AreCodedTexts (nulls : List Bool) (ends bytes : List ℕ) (known : Option TextCodes) : Type 0 where
  pub texts : AreTextBytes nulls ends bytes
  pub codes : IfSome known (λ (it : TextCodes). AreCodes it (text_block_cells nulls ends bytes))
