use Rattle.std.proofs.Common.{map}
use Rattle.std.specs.Cow.{cow_slice_items}
use Rattle.file_convert.specs.Rows.{AreTitled, plan_of}
use Rattle.file_convert.proofs.rows.header_of.Given as goal

-- the columns so far have written their titles
abbrev pub invariant-loop-place : goal.invariant-loop-place
invariant-loop-place l = AreTitled (map plan_of l.reports) (map cow_slice_items l.titles) l.place (map cow_slice_items l.row.items)
