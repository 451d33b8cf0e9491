use Rattle.std.proofs.Common.{◌≡◌, ◌++◌, map, take}
use Rattle.std.specs.Cow.{cow_slice_items}
use Rattle.csv_records.proofs.WrittenLemmas.{next_fields}
use Rattle.csv_records.proofs.write.push_cells.Given as goal

-- the cells so far are written, each after a comma
abbrev pub invariant-loop-cell : goal.invariant-loop-cell
invariant-loop-cell l = l.out.items ≡ l.initial.out.items ++ next_fields (map cow_slice_items (take l.cell-index l.others))
