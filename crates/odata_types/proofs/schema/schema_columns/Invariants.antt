use Rattle.std.proofs.Common.{◌≡◌, map, take}
use Rattle.cell_types.specs.Column.{column_view}
use Rattle.odata_types.specs.Columns.{inputs_view}
use Rattle.odata_types.specs.Schema.{input_of}
use Rattle.odata_types.proofs.schema.schema_columns.Given as goal

abbrev pub invariant-loop-column : goal.invariant-loop-column
invariant-loop-column l = inputs_view l.columns.items ≡ map input_of (map column_view (take l.column-index l.column-items))
