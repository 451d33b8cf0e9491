use Rattle.std.proofs.Common.{◌≡◌, [], get_or, map, take}
use Rattle.cell_types.specs.Value.{value_view}
use Rattle.block_filter.proofs.rows.read_row.Given as goal

-- the values of the first columns
abbrev pub invariant-loop-col : goal.invariant-loop-col
invariant-loop-col l = map value_view l.values.items ≡ take l.col (get_or l.block.rows l.row [])
