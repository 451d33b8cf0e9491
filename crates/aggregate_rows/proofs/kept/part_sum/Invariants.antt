use Rattle.std.proofs.Common.{◌≡◌, ◌≤◌, drop, length}
use Rattle.aggregate_rows.specs.Sums.{numbers_at, sum_of}
use Rattle.aggregate_rows.proofs.kept.part_sum.Given as goal

-- the sum of the rows from one on
abbrev pub invariant-loop-i : goal.invariant-loop-i
invariant-loop-i l = record { within : l.i ≤ length l.numbers; sum : l.sum ≡ sum_of (numbers_at l.column (drop l.i l.numbers)) }

abbrev pub decreases-loop-i : goal.decreases-loop-i
decreases-loop-i l = l.i
