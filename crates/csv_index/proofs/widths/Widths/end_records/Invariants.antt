use Rattle.csv_index.proofs.WidthLemmas.{IsCounting}
use Rattle.csv_index.proofs.widths.Widths.end_records.Given as goal

abbrev pub invariant-loop-left : goal.invariant-loop-left
invariant-loop-left l = IsCounting l.fn.self l.self l.fn.ends l.fn.eol l.left

abbrev pub decreases-loop-left : goal.decreases-loop-left
decreases-loop-left l = l.left
