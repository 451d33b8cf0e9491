-- The places that are left are those that were.
use Rattle.std.proofs.Common.{◌≡◌, ◌+◌, ◌*◌, ◌^◌, ◌<◌, ◌++◌, length}
use Rattle.csv_index.specs.Blocks.{set_places}
use Rattle.csv_index.specs.Structure.{ends_of}
use Rattle.csv_index.proofs.ends.Ends.next.Given as goal

abbrev pub invariant-loop-self : goal.invariant-loop-self
invariant-loop-self l = record {
  left : set_places l.self-inside.base l.self-inside.word 0 64 ++ ends_of (l.self-inside.base + 64) l.self-inside.rest.now l.self-inside.last ≡ l.fn.self;
  room : l.self-inside.base + 64 * length l.self-inside.rest.now + 64 < 2 ^ 64;
}

abbrev pub decreases-loop-self : goal.decreases-loop-self
decreases-loop-self l = length l.self-inside.rest.now
