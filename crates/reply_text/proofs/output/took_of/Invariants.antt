use Rattle.std.proofs.Common.{◌≡◌, ◌++◌, drop, length, ◌<◌, ◌≤◌}
use Rattle.std.specs.List.{concat}
use Rattle.reply_text.proofs.output.took_of.Given as goal

abbrev pub invariant-loop-others : goal.invariant-loop-others
invariant-loop-others l = record {
  within : l.passed ≤ l.count;
  bytes : l.first ++ concat l.others.items ≡ drop l.passed (l.fn.first ++ concat l.fn.others.items);
  done : 0 < length l.first → l.passed ≡ l.count;
}

abbrev pub decreases-loop-others : goal.decreases-loop-others
decreases-loop-others l = length l.others.items
