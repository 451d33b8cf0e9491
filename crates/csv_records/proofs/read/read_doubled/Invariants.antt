use Rattle.std.proofs.Common.{◌≡◌, ◌++◌, length, map}
use Rattle.csv_grammar.specs.Records.{doubled}
use Rattle.csv_records.specs.Exchange.{exchanged}
use Rattle.csv_records.proofs.read.read_doubled.Given as goal

-- what is read, and the rest
abbrev pub invariant-loop-byte : goal.invariant-loop-byte
invariant-loop-byte l =
    map (exchanged l.separator) l.text ≡ doubled (map (exchanged l.separator) l.cell.items) ++ map (exchanged l.separator) l.left

abbrev pub decreases-loop-byte : goal.decreases-loop-byte
decreases-loop-byte l = length l.left
