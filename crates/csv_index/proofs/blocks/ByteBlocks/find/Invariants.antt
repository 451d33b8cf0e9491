-- As many places as are left stand between the block and the one that is looked for.
use Rattle.std.proofs.Common.{◌≡◌, ◌<◌, ◌+◌, ◌-◌, length}
use Rattle.csv_index.specs.Blocks.{rank}
use Rattle.csv_index.proofs.blocks.ByteBlocks.find.Given as goal

abbrev pub invariant-loop-number : goal.invariant-loop-number
invariant-loop-number l = record {
  within : l.number < length l.masks;
  before : rank l.masks l.number + l.left ≡ l.n;
}

abbrev pub decreases-loop-number : goal.decreases-loop-number
decreases-loop-number l = length l.masks - l.number
