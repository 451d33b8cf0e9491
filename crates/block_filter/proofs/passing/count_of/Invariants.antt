use Rattle.std.proofs.Common.{◌≡◌, ◌≤◌, take}
use Rattle.std.specs.Prelude.{count_by}
use Rattle.block_filter.specs.Marks.{is_marked}
use Rattle.block_filter.proofs.passing.count_of.Given as goal

-- the count so far is that of the first rows
abbrev pub invariant-loop-is_wanted : goal.invariant-loop-is_wanted
invariant-loop-is_wanted l = (l.count ≤ l.is_wanted-index) × (l.count ≡ count_by is_marked (take l.is_wanted-index l.wanted))
