use Rattle.std.proofs.Common.{◌≡◌, map, take}
use Rattle.cell_types.specs.Value.{value_view}
use Rattle.result_rows.proofs.rows.one_row.Given as goal

-- the values so far
abbrev pub invariant-loop-value : goal.invariant-loop-value
invariant-loop-value l = l.row ≡ map value_view (take l.value-index l.values)
