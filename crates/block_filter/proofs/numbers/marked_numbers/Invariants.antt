use Rattle.std.proofs.Common.{◌≡◌, false, filter, get_or, take}
use Rattle.block_filter.proofs.numbers.marked_numbers.Given as goal

-- the numbers so far whose marks are true
abbrev pub invariant-loop-place : goal.invariant-loop-place
invariant-loop-place l = l.made.items ≡ filter (λ number. get_or l.marks number false) (take l.place l.numbers)
