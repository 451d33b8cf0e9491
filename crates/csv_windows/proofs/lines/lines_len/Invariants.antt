use Rattle.csv_windows.proofs.LineLemmas.{CountsTo}
use Rattle.csv_windows.proofs.lines.lines_len.Given as goal

abbrev pub invariant-loop-end : goal.invariant-loop-end
invariant-loop-end l = CountsTo l.bytes l.end l.quotes

abbrev pub decreases-loop-end : goal.decreases-loop-end
decreases-loop-end l = l.end
