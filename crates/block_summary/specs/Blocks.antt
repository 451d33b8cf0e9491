-- The blocks of a table.
use Rattle.std.specs.Prelude.{ℕ, ◌+◌, ◌*◌, ◌-◌, ◌/◌, List, drop, take}
use Rattle.cell_types.specs.Value.{CellValue}
use Rattle.block_summary.specs.declared.block.TheConstants.{BLOCK_ROWS}

-- how many blocks `rows` rows have
abbrev pub block_count : ℕ → ℕ
block_count rows = (rows + (BLOCK_ROWS - 1)) / BLOCK_ROWS

-- the rows of the block with a number, counted from 0
abbrev pub block_at : List (List CellValue) → ℕ → List (List CellValue)
block_at rows number = take BLOCK_ROWS (drop (number * BLOCK_ROWS) rows)
