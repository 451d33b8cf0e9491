use Rattle.std.proofs.Common.{◌≡◌, ◌+◌, ◌^◌, ◌<◌, ◌≤◌}
use Rattle.quote_parity.specs.Words.{ones_below}
use Rattle.quote_parity.proofs.words.select.Given as goal

abbrev pub invariant-loop-level : goal.invariant-loop-level
invariant-loop-level l = record {
  few : l.level ≤ 6;
  within : l.place + 2 ^ l.level ≤ 64;
  so_far : ones_below l.word l.place + l.rest ≡ l.n;
  ahead : l.n < ones_below l.word (l.place + 2 ^ l.level);
}

abbrev pub decreases-loop-level : goal.decreases-loop-level
decreases-loop-level l = l.level
