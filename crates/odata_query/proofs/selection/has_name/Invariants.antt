-- The columns left decide.
use Rattle.std.proofs.Common.{◌≡◌, drop}
use Rattle.odata_types.specs.Columns.{inputs_view}
use Rattle.odata_query.specs.Selection.{has_name}
use Rattle.odata_query.proofs.selection.has_name.Given as goal

abbrev pub invariant-loop-column : goal.invariant-loop-column
invariant-loop-column l = has_name (inputs_view l.columns) l.name ≡ has_name (inputs_view (drop l.column-index l.columns)) l.name
