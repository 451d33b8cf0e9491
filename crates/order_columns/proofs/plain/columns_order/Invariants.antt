use Rattle.std.proofs.Common.{◌≡◌, [], drop, slice_index_or}
use Rattle.order_columns.specs.Plain.{columns_cmp}
use Rattle.order_columns.proofs.plain.columns_order.Given as goal

abbrev pub invariant-loop-item : goal.invariant-loop-item
invariant-loop-item l =
    columns_cmp l.items (slice_index_or l.columns.rows l.a []) (slice_index_or l.columns.rows l.b [])
    ≡ columns_cmp (drop l.item-index l.items) (slice_index_or l.columns.rows l.a []) (slice_index_or l.columns.rows l.b [])
