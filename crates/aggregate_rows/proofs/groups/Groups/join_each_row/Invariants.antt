use Rattle.std.proofs.Common.{◌++◌, List, Some, take}
use Rattle.cell_types.specs.Value.{CellValue}
use Rattle.row_columns.specs.Picked.{numbered}
use Rattle.aggregate_rows.specs.Gathered.{HasGroups}
use Rattle.aggregate_rows.proofs.groups.Groups.join_each_row.Given as goal

-- the rows that joined so far
abbrev pub invariant-loop-i : goal.invariant-loop-i
invariant-loop-i l = (rows : List (List CellValue)) → HasGroups (Some l.places) l.aggregates l.initial.self rows
    → HasGroups (Some l.places) l.aggregates l.self (rows ++ numbered (take l.i l.numbers) l.columns.rows)
