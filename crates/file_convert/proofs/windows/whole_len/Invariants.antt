use Rattle.std.proofs.Common.{◌≤◌}
use Rattle.file_convert.proofs.windows.whole_len.Given as goal

abbrev pub invariant-loop-place : goal.invariant-loop-place
invariant-loop-place l = l.len ≤ l.place
