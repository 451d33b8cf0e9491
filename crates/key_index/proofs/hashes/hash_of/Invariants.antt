use Rattle.std.proofs.Common.{◌≡◌, take}
use Rattle.std.specs.Hash.FoldHasher.{initial}
use Rattle.std.specs.List.{fold}
use Rattle.cell_types.specs.Value.{value_view}
use Rattle.key_index.specs.Hashes.{hash_cell}
use Rattle.key_index.proofs.hashes.hash_of.Given as goal

-- the hasher after the values so far
abbrev pub invariant-loop-value : goal.invariant-loop-value
invariant-loop-value l = l.hasher ≡ fold (λ hasher value. hash_cell hasher (value_view value)) initial (take l.value-index l.key)
