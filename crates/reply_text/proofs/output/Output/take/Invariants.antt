use Rattle.std.proofs.Common.{◌≡◌, ◌++◌, ◌-◌, drop, take, length, ◌≤◌}
use Rattle.reply_text.proofs.output.Output.take.Given as goal

abbrev pub invariant-loop-count : goal.invariant-loop-count
invariant-loop-count l = record {
  within : l.count ≤ length l.buf;
  had : l.count ≤ length l.fn.self;
  bytes : l.buf ≡ take l.count l.fn.self ++ drop l.count l.fn.buf;
  left : l.self ≡ drop l.count l.fn.self;
}

abbrev pub decreases-loop-count : goal.decreases-loop-count
decreases-loop-count l = length l.buf - l.count
