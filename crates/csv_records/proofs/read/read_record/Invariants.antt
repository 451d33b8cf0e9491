use Rattle.std.proofs.Common.{length, map}
use Rattle.std.specs.Cow.{cow_slice_items}
use Rattle.csv_records.specs.Exchange.{exchanged}
use Rattle.csv_records.proofs.ReadLemmas.{AreClosed}
use Rattle.csv_records.proofs.read.read_record.Given as goal

-- the fields that are read, each with the comma after it, and the rest
abbrev pub invariant-loop-cells : goal.invariant-loop-cells
invariant-loop-cells l =
    AreClosed l.separator (map (exchanged l.separator) l.text) (map (exchanged l.separator) l.left) (map cow_slice_items l.cells.items)

abbrev pub decreases-loop-cells : goal.decreases-loop-cells
decreases-loop-cells l = length l.left
