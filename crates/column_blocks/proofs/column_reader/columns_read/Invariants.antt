use Rattle.std.proofs.Common.{◌≡◌, map}
use Rattle.column_blocks.specs.ColumnReader.{cells_read}
use Rattle.column_blocks.proofs.column_reader.columns_read.Given as goal

-- there is a column for each reader so far
abbrev pub invariant-loop-reader : goal.invariant-loop-reader
invariant-loop-reader l = l.columns.items ≡ map cells_read l.yielded
