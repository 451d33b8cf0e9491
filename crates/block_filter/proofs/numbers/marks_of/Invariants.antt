use Rattle.std.proofs.Common.{◌≡◌, true, false, get_or, length, take}
use Rattle.std.specs.List.{All}
use Rattle.block_filter.proofs.numbers.marks_of.Given as goal

-- the numbers so far have their marks
abbrev pub invariant-loop-place : goal.invariant-loop-place
invariant-loop-place l =
    (length l.marks.items ≡ l.rows) × All (λ number. get_or l.marks.items number false ≡ true) (take l.place l.numbers)
