use Rattle.std.proofs.Common.{◌≡◌, ◌<◌, ℕ, true, drop, get_or, map, take}
use Rattle.cell_types.specs.Value.{null, value_eq, value_view}
use Rattle.value_rows.proofs.packed.PackedValues.are_at.Given as goal

-- the first values are those
abbrev pub invariant-loop-i : goal.invariant-loop-i
invariant-loop-i l = (j : ℕ) → j < l.i → value_eq (get_or (take l.len (drop l.from l.self)) j null) (get_or (map value_view l.values) j null) ≡ true
