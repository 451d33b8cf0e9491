-- The summaries of the blocks of a table.
use Rattle.std.specs.Prelude.{◌≡◌, ◌<◌, ◌≤◌, ◌*◌, ℕ, List, [], drop, length, map, slice_index_or, take}
use Rattle.block_summary.specs.declared.block.TheConstants.{BLOCK_ROWS}
use Rattle.block_summary.specs.Ranges.{RangeOf, no_range, AreRangesOf, IsRangeOf}
use Rattle.cell_types.specs.Value.{CellValue}
use Rattle.table_store.specs.declared.summaries.SummarizedRows.{SummarizedRows}
use Rattle.table_store.specs.Block.{block_count, block_of}
use Rattle.table_store.specs.Table.{TableOf}
use Rattle.column_blocks.specs.TypedColumn.{ColumnCells}

-- the range of each column of a block
pub record IsSummaryOf (block : TableOf) (ranges : List RangeOf) : Type 0 where
  pub width : length ranges ≡ length block.schema.columns
  pub each : AreRangesOf ranges block.rows

-- the summary of each block of a table, in order
pub record AreSummariesOf (table : TableOf) (summaries : List (List RangeOf)) : Type 0 where
  pub count : length summaries ≡ block_count (length table.rows)
  pub each : (number : ℕ) → number < length summaries → IsSummaryOf (block_of table number) (slice_index_or summaries number [])

-- the cells of each column
abbrev pub cells_by_column : List ColumnCells → List (List CellValue)
cells_by_column columns = map (λ (column : ColumnCells). column.cells) columns

-- the ranges of the cells of each column in the block of that number
pub record AreRangesAt (number : ℕ) (columns : List ColumnCells) (ranges : List RangeOf) : Type 0 where
  pub width : length ranges ≡ length columns
  pub each : (col : ℕ) → col < length columns
      → IsRangeOf (slice_index_or ranges col no_range) (take BLOCK_ROWS (drop (number * BLOCK_ROWS) (slice_index_or (cells_by_column columns) col [])))

-- so they are of each of the first blocks, in order
abbrev pub AreFirstRanges : List ColumnCells → List (List RangeOf) → Type 0
AreFirstRanges columns summaries = (number : ℕ) → number < length summaries → AreRangesAt number columns (slice_index_or summaries number [])

-- of the same rows more blocks have their summaries, or all have
pub record SummarizesOn (old new : SummarizedRows) : Type 0 where
  pub rows : new.rows ≡ old.rows
  pub first : AreFirstRanges new.rows.columns.items new.summaries.items
  pub few : length new.summaries.items ≤ block_count new.rows.rows
  pub more : length new.summaries.items < block_count new.rows.rows → length old.summaries.items < length new.summaries.items
