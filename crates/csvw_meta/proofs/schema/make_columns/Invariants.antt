-- The columns made so far, and those that are left.
use Rattle.std.proofs.Common.{◌≡◌, [], ◌∷◌, ◌++◌, map, drop}
use Rattle.serde_json.specs.View.{view}
use Rattle.cell_types.specs.Column.{column_view}
use Rattle.csvw_meta.specs.Column.{said_column}
use Rattle.csvw_meta.proofs.schema.make_columns.Given as goal

abbrev pub invariant-loop-column : goal.invariant-loop-column
invariant-loop-column l = let made = said_column (view l.schema ∷ view l.table ∷ view l.group ∷ []) in
    map column_view l.made.items ++ map made (map view (drop l.column-index l.columns)) ≡ map made (map view l.columns)
