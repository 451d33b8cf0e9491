use Rattle.std.proofs.Common.{◌≡◌, map, take}
use Rattle.cell_types.specs.Value.{value_view}
use Rattle.order_columns.specs.Items.{values_before}
use Rattle.order_columns.proofs.item_columns.kept_row.Given as goal

abbrev pub invariant-loop-column : goal.invariant-loop-column
invariant-loop-column l = map value_view l.values.items ≡ values_before (take l.column-index l.computed) l.number
