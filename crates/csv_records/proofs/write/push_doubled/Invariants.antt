use Rattle.std.proofs.Common.{◌≡◌, ◌++◌, take}
use Rattle.csv_grammar.specs.Records.{doubled}
use Rattle.csv_records.proofs.write.push_doubled.Given as goal

-- the bytes so far are appended, each double quote as two
abbrev pub invariant-loop-byte : goal.invariant-loop-byte
invariant-loop-byte l = l.out.items ≡ l.initial.out.items ++ doubled (take l.byte-index l.cell)
