-- The columns left are after those so far.
use Rattle.std.proofs.Common.{◌≡◌, ◌++◌, drop}
use Rattle.odata_types.specs.Columns.{inputs_view}
use Rattle.odata_query.specs.Apply.{columns_at}
use Rattle.odata_query.proofs.group.columns_of.Given as goal

abbrev pub invariant-loop-place : goal.invariant-loop-place
invariant-loop-place l = columns_at (inputs_view l.columns) l.places ≡ inputs_view l.made.items ++ columns_at (inputs_view l.columns) (drop l.place-index l.places)
