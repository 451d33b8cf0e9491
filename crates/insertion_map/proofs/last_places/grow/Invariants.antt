use Rattle.std.proofs.Common.{◌≡◌, ◌+◌, ◌-◌, ℕ, length}
use Rattle.insertion_map.specs.LastPlaces.{entries_at}
use Rattle.insertion_map.proofs.last_places.grow.Given as goal

-- what the parts have stays
abbrev pub invariant-loop-alloc : goal.invariant-loop-alloc
invariant-loop-alloc l = (at : ℕ) → entries_at l.parts.items at ≡ entries_at l.initial.parts.items at

abbrev pub decreases-loop-alloc : goal.decreases-loop-alloc
decreases-loop-alloc l = l.part + 1 - length l.parts.items
