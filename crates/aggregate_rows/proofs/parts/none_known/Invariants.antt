use Rattle.std.proofs.Common.{◌≡◌, None, replicate}
use Rattle.aggregate_rows.proofs.parts.none_known.Given as goal

-- one for each turn
abbrev pub invariant-loop : goal.invariant-loop
invariant-loop l = l.known.items ≡ replicate l.counter None
