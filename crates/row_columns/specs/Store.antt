-- Where rows stand.
use Rattle.std.specs.Prelude.{◌≡◌, ◌*◌, ◌/◌, ◌%◌, ◌<◌, ◌≤◌, ℕ, List, [], length, map, replicate, slice_index_or}
use Rattle.std.specs.List.{AllByRecursion}
use Rattle.block_summary.specs.declared.block.TheConstants.{BLOCK_ROWS}
use Rattle.cell_types.specs.Value.{CellValue}
use Rattle.row_columns.specs.declared.store.Store.{Store}
use Rattle.row_columns.specs.declared.store.Store.TheVariants.{Blocks, Values}
use Rattle.row_columns.specs.Kinds.{KindOf, any, of_kind}
use Rattle.row_columns.specs.Picked.{kinds_at, values_at}
use Rattle.row_columns.specs.Piece.{piece_row}
use Rattle.column_blocks.specs.ColumnCells.{ColumnCells}

-- a row of blocks has the number of its block and its own in the block, as one
abbrev pub numbered_row : List (List ColumnCells) → ℕ → List CellValue
numbered_row pieces number = piece_row (slice_index_or pieces (number / BLOCK_ROWS) []) (number % BLOCK_ROWS)

abbrev pub stored_row : Store → ℕ → List CellValue
stored_row (Blocks kinds pieces) number = numbered_row pieces.items number
stored_row (Values rows) number = slice_index_or rows.rows number []

abbrev pub stored_kinds : Store → List KindOf
stored_kinds (Blocks kinds pieces) = map of_kind kinds.items
stored_kinds (Values rows) = replicate rows.width any

-- no row has that number, or a greater one
abbrev pub end_of : Store → ℕ
end_of (Blocks kinds pieces) = length pieces.items * BLOCK_ROWS
end_of (Values rows) = length rows.rows

-- each row has a value for each column
abbrev pub IsStoredWide : Store → Type 0
IsStoredWide (Blocks kinds pieces) = AllByRecursion (λ (piece : List ColumnCells). length piece ≡ length kinds.items) pieces.items
IsStoredWide (Values rows) = AllByRecursion (λ (row : List CellValue). length row ≡ rows.width) rows.rows

-- the rows have their values in the columns with these places
pub record IsPicked (places : List ℕ) (old new : Store) : Type 0 where
  pub kinds : stored_kinds new ≡ kinds_at places (stored_kinds old)
  pub end : end_of new ≡ end_of old
  pub wide : IsStoredWide new
  pub rows : (number : ℕ) → number < end_of old → stored_row new number ≡ values_at places (stored_row old number)

-- rows came under these numbers, and the others stayed
pub record HasTakenRows (old new : Store) (rows : List (List CellValue)) (numbers : List ℕ) : Type 0 where
  pub kinds : stored_kinds new ≡ stored_kinds old
  pub wide : IsStoredWide new
  pub end : end_of old ≤ end_of new
  pub stay : (number : ℕ) → number < end_of old → stored_row new number ≡ stored_row old number
  pub within : AllByRecursion (λ (number : ℕ). number < end_of new) numbers
  pub come : map (stored_row new) numbers ≡ rows
