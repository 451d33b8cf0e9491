use Rattle.std.proofs.Common.{◌≡◌, ◌++◌, ◌≤◌, length, take, vec_capacity, vec_len}
use Rattle.reply_text.proofs.reply.fill.Given as goal

abbrev pub invariant-loop-body : goal.invariant-loop-body
invariant-loop-body l = record {
  bytes : take l.end l.laid.items ++ l.body.bytes ≡ l.fn.laid.items ++ l.fn.body.bytes;
  longest : l.body.longest ≡ l.fn.body.longest;
  room : vec_capacity l.fn.laid ≤ vec_capacity l.laid;
  len : vec_len l.laid ≡ l.room;
  within : l.end ≤ l.room;
}

abbrev pub decreases-loop-body : goal.decreases-loop-body
decreases-loop-body l = length l.body.bytes
