use Rattle.std.proofs.Common.{◌≡◌, take}
use Rattle.row_columns.specs.Chunks.{chunked_numbers}
use Rattle.row_columns.proofs.row_numbers.RowNumbers.list.Given as goal

-- those of the first chunks
abbrev pub invariant-loop-chunk : goal.invariant-loop-chunk
invariant-loop-chunk l = l.listed.items ≡ chunked_numbers (take l.chunk-index l.chunk-items)
