use Rattle.std.proofs.Common.{◌++◌, List, take}
use Rattle.std.specs.Prelude.{IfSome}
use Rattle.cell_types.specs.Value.{CellValue}
use Rattle.query_meaning.specs.Apply.{present_values}
use Rattle.row_columns.specs.Picked.{numbered}
use Rattle.row_codes.specs.Kept.{IsKeptAs}
use Rattle.aggregate_rows.specs.Distinct.{HoldsDistinct}
use Rattle.aggregate_rows.proofs.distinct.Distinct.join.Given as goal

-- the values of the rows so far
abbrev pub invariant-loop-i : goal.invariant-loop-i
invariant-loop-i l = record {
  kept : IfSome l.marked (λ cells. IsKeptAs l.self.kind l.place l.columns.rows cells.now);
  holds : (rows : List (List CellValue)) → HoldsDistinct l.fn.self (present_values l.place rows)
      → HoldsDistinct l.self (present_values l.place (rows ++ numbered (take l.i l.numbers) l.columns.rows));
}
