-- The keys of the rows of columns, how a table finds its rows by them, and why rows have none.
use Rattle.std.specs.Prelude.{◌≡◌, ◌≢◌, ◌<◌, ◌^◌, ℕ, List, [], length, map, Option, None, Some, All, slice_index_or}
use Rattle.std.specs.List.{range_with_len}
use Rattle.cell_types.specs.Column.{ColumnOf}
use Rattle.cell_types.specs.Value.{CellValue, null}
use Rattle.key_index.specs.declared.keys.Keys.{Keys}
use Rattle.key_index.specs.declared.keys.Keys.TheVariants.{Rising, Slots}
use Rattle.key_index.specs.declared.keys.KeyFault.{KeyFault}
use Rattle.key_index.specs.declared.keys.KeyFault.TheVariants.{Null, Twice}
use Rattle.key_index.specs.Key.{null_row, repeated_row, key_index}
use Rattle.key_index.specs.Rising.{AreRising}
use Rattle.key_index.specs.Slots.{AreSeated}
use Rattle.column_blocks.specs.ColumnCells.{ColumnCells}

-- each place is that of a column
abbrev pub AreColumns : List ℕ → List ColumnOf → Type 0
AreColumns places columns = All (λ place. place < length columns) places

-- the cells of a row of columns
abbrev pub typed_row : ℕ → List ColumnCells → List CellValue
typed_row row columns = map (λ (column : ColumnCells). slice_index_or column.cells row null) columns

-- the keys of the rows of columns; none, if there is no key
abbrev pub typed_keys : List ℕ → List ColumnCells → ℕ → List (List CellValue)
typed_keys places columns rows = key_index places (map (λ row. typed_row row columns) (range_with_len 0 rows))

-- each row is in a slot by its key
pub record AreInSlots (rows : ℕ) (slots : List ℕ) (of : List (List CellValue)) : Type 0 where
  pub count : rows ≡ length of
  pub room : length of < length slots
  pub few : length slots < 2 ^ 32
  pub seated : AreSeated (λ row. slice_index_or of row []) slots (length of)

-- how the row of a key is found: the keys rise, or each row is in a slot
abbrev pub AreByKey : Keys → List (List CellValue) → Type 0
AreByKey (Rising rows) of = (rows ≡ length of) × AreRising (λ row. slice_index_or of row []) (length of)
AreByKey (Slots rows slots) of = AreInSlots rows slots.items of

-- those are the keys of rows: each row is found by its own, none has a null, and no row has that of an earlier one
pub record AreKeysOf (keys : Keys) (of : List (List CellValue)) : Type 0 where
  pub found : AreByKey keys of
  pub whole : null_row of ≡ None
  pub distinct : repeated_row of ≡ None

-- the row below a count that has a key
abbrev pub IsRowWithKey : ℕ → (ℕ → List CellValue) → List CellValue → Option ℕ → Type 0
IsRowWithKey count key_at key (Some row) = (row < count) × (key ≡ key_at row)
IsRowWithKey count key_at key None = (row : ℕ) → row < count → key ≢ key_at row

-- this is the first thing wrong with the keys
abbrev pub HasKeyFault : List (List CellValue) → KeyFault → Type 0
HasKeyFault keys (Null row) = null_row keys ≡ Some row
HasKeyFault keys (Twice row) = (null_row keys ≡ None) × (repeated_row keys ≡ Some row)
