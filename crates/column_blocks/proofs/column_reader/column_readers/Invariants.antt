use Rattle.std.proofs.Common.{◌≡◌, [], map, take}
use Rattle.cell_types.specs.Column.{column_view}
use Rattle.column_blocks.specs.ColumnReader.{reader_at}
use Rattle.column_blocks.proofs.column_reader.column_readers.Given as goal

-- there is a reader for each column so far
abbrev pub invariant-loop-column : goal.invariant-loop-column
invariant-loop-column l = l.readers.items ≡ map (λ column. reader_at l.rows column []) (map column_view (take l.column-index l.columns))
