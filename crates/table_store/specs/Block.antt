-- Blocks of rows: the rows of a table in their order, up to a number of rows each.
pub use Rattle.block_summary.specs.Blocks.{block_count}
pub use Rattle.column_blocks.specs.TypedColumn.{cells_of_numbers}
use Rattle.std.specs.Prelude.{◌≡◌, ◌+◌, ◌*◌, ◌-◌, ◌/◌, ◌≤◌, ◌^◌, ◌<◌, ℕ, min, if◌then◌else◌, List, length, take, drop, Option, Some, None, option_and_then, option_map, slice_get}
use Rattle.block_summary.specs.Ranges.{column_of}
use Rattle.cell_types.specs.Kind.{kind_of}
use Rattle.cell_types.specs.Column.{ColumnOf}
use Rattle.cell_types.specs.Datatype.{is_text}
use Rattle.cell_types.specs.Value.{CellValue}
use Rattle.block_summary.specs.declared.block.TheConstants.{BLOCK_ROWS}
use Rattle.table_store.specs.declared.block.Block.TheInside.{Inside}
use Rattle.table_store.specs.Table.{TableOf}
use Rattle.column_blocks.specs.TypedColumn.{typed_cells, ColumnCells}

-- some of the rows of a table
abbrev pub part : TableOf → ℕ → ℕ → TableOf
part table first rows = record { schema = table.schema; rows = take rows (drop first table.rows) }

-- the block of that number
abbrev pub block_of : TableOf → ℕ → TableOf
block_of table number = part table (number * BLOCK_ROWS) BLOCK_ROWS

abbrev pub block_view : Inside → TableOf
block_view block = part block.table.now block.first block.rows

-- they are rows of the table, by numbers that fit
pub record IsPartOfTable (block : Inside) : Type 0 where
  pub within : block.first + block.rows ≤ length block.table.now.rows
  pub fits : block.first + block.rows < 2 ^ 64
  -- and those of a block
  pub some : block.first < length block.table.now.rows
  pub aligned : block.first / BLOCK_ROWS * BLOCK_ROWS ≡ block.first
  pub whole : block.rows ≡ min (length block.table.now.rows - block.first) BLOCK_ROWS

-- the cells of a column that is none of texts
abbrev pub packed_cells : TableOf → ℕ → Option (List CellValue)
packed_cells block col =
    option_and_then (λ (column : ColumnOf). cells_of_numbers (kind_of column.datatype) (column_of block.rows col)) (slice_get block.schema.columns col)

-- the cells of a column of texts
abbrev pub text_cells : TableOf → ℕ → Option (List CellValue)
text_cells block col =
    option_and_then (λ (column : ColumnOf). if is_text column.datatype then Some (column_of block.rows col) else None) (slice_get block.schema.columns col)

-- the cells of a column, and their kind
abbrev pub typed_cells_of : TableOf → ℕ → Option ColumnCells
typed_cells_of block col = option_map (λ (column : ColumnOf). typed_cells column (column_of block.rows col)) (slice_get block.schema.columns col)

-- a column is none of texts
abbrev pub HasNumbers : TableOf → ℕ → Type 0
HasNumbers block col = packed_cells block col ≡ Some (column_of block.rows col)
