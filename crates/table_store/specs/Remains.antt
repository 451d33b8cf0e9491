-- What is left of tables that are dropped in parts.
use Rattle.std.specs.Prelude.{ℕ, ◌+◌, ◌*◌, List, length}
use Rattle.std.specs.List.{sum_by}
use Rattle.column_blocks.specs.ColumnCells.{ColumnCells}
use Rattle.table_store.specs.declared.remains.Remains.TheInside.{Inside}
use Rattle.table_store.specs.Block.{block_count}
use Rattle.table_store.specs.Table.{TableOf}

-- how many parts a column has: its blocks, and itself
abbrev pub column_parts : ColumnCells → ℕ
column_parts column = block_count (length column.cells) + 1

-- a table has those of its columns, the summary of each block, and itself
abbrev pub table_parts : TableOf → ℕ
table_parts table = length table.schema.columns * (block_count (length table.rows) + 1) + block_count (length table.rows) + 1

-- those of tables
abbrev pub parts_of_tables : List TableOf → ℕ
parts_of_tables tables = sum_by table_parts tables

-- those that are left
abbrev pub remaining_parts : Inside → ℕ
remaining_parts remains =
    sum_by table_parts remains.tables.items + sum_by column_parts remains.columns.items + length remains.summaries.items + length remains.blocks.items
