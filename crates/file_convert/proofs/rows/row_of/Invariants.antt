use Rattle.std.proofs.Common.{◌≡◌, map}
use Rattle.std.specs.Cow.{cow_slice_items}
use Rattle.file_convert.specs.Rows.{AreWritten, plan_of}
use Rattle.file_convert.proofs.rows.row_of.Given as goal

-- the columns so far have written their cells, and all keep their plans
abbrev pub invariant-loop-place : goal.invariant-loop-place
invariant-loop-place l = record {
  plans : map plan_of l.reports ≡ map plan_of l.initial.reports;
  row : AreWritten (map plan_of l.initial.reports) (map cow_slice_items l.cells) l.place (map cow_slice_items l.row.items);
}
