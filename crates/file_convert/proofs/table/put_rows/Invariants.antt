use Rattle.std.proofs.Common.{◌≡◌, length, map}
use Rattle.csv_records.specs.Exchange.{exchanged}
use Rattle.file_convert.specs.Rows.{plan_of}
use Rattle.file_convert.proofs.TableLemmas.{RowsSoFar}
use Rattle.file_convert.proofs.table.put_rows.Given as goal

-- the rows so far are written, and the columns keep their plans
abbrev pub invariant-loop-left : goal.invariant-loop-left
invariant-loop-left l = record {
  plans : map plan_of l.reports ≡ map plan_of l.initial.reports;
  rows : RowsSoFar (map plan_of l.initial.reports) l.how (map (exchanged l.how.separator) l.text) (map (exchanged l.how.separator) l.left) l.initial.out.items l.out.items;
}

abbrev pub decreases-loop-left : goal.decreases-loop-left
decreases-loop-left l = length l.left
