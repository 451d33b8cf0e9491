use Rattle.std.proofs.Common.{◌≡◌, map, take}
use Rattle.cell_types.specs.Column.{column_view}
use Rattle.row_columns.specs.Kinds.{kinds_of, of_kind}
use Rattle.row_columns.proofs.store.all_kinds.Given as goal

-- the kinds of the first columns
abbrev pub invariant-loop-column : goal.invariant-loop-column
invariant-loop-column l = map of_kind l.made.items ≡ kinds_of (map column_view (take l.column-index l.columns))
