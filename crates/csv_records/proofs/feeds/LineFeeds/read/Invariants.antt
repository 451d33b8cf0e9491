use Rattle.std.proofs.Common.{◌≡◌, ◌++◌, ℕ, List, length}
use Rattle.csv_records.specs.Lines.{fed}
use Rattle.csv_records.proofs.feeds.LineFeeds.read.Given as goal

-- what is written for the whole text, whatever follows it, is the same for what is left
abbrev pub invariant-loop-byte : goal.invariant-loop-byte
invariant-loop-byte l = (text : List ℕ) → l.initial.out.items ++ fed l.initial.self (l.text ++ text) ≡ l.out.items ++ fed l.self (l.left ++ text)

abbrev pub decreases-loop-byte : goal.decreases-loop-byte
decreases-loop-byte l = length l.left
