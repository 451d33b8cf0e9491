use Rattle.std.proofs.Common.{◌≡◌, ◌+◌, ◌++◌, map, take}
use Rattle.row_columns.proofs.row_numbers.push_rows.Given as goal

-- those of the first rows came
abbrev pub invariant-loop-row : goal.invariant-loop-row
invariant-loop-row l = l.listed.items ≡ l.fn.listed.items ++ map (λ row. l.chunk.start + row) (take l.row-index l.row-items)
