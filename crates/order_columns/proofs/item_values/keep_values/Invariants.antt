use Rattle.std.proofs.Common.{◌≡◌, drop, length}
use Rattle.order_columns.proofs.KeepLemmas.{KeptSoFar}
use Rattle.order_columns.proofs.item_values.keep_values.Given as goal

abbrev pub invariant-loop-place : goal.invariant-loop-place
invariant-loop-place l =
    (length l.values.items ≡ length l.initial.values.items) × KeptSoFar l.items (drop l.first l.columns.rows) l.place l.initial.values.items l.values.items
