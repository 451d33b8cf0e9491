use Rattle.std.proofs.Common.{◌≡◌, ◌≢◌, ◌<◌, ℕ, get_or, length}
use Rattle.std.specs.Prelude.{pos}
use Rattle.block_eval.specs.Items.{slot_of}
use Rattle.block_eval.specs.declared.items.TheConstants.{SLOTS}
use Rattle.block_eval.proofs.items.slots_of.Given as goal

-- the slots of the numbers so far
abbrev pub invariant-loop-place : goal.invariant-loop-place
invariant-loop-place l = record {
  each : (k : ℕ) → k < l.place → get_or l.slots.items (slot_of (get_or l.numbers k (pos 0))) 0 ≢ 0;
  long : length l.slots.items ≡ SLOTS;
}
