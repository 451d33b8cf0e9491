use Rattle.std.proofs.Common.{◌≡◌, take}
use Rattle.query_exec.proofs.sorted.same_rows.Given as goal

-- the rows so far are the first of them
abbrev pub invariant-loop-place : goal.invariant-loop-place
invariant-loop-place l = l.same.items ≡ take l.place l.rows
