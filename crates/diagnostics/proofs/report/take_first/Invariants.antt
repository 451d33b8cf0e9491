use Rattle.std.proofs.Common.{◌≡◌, ◌++◌, drop, map, string_bytes, take}
use Rattle.diagnostics.specs.Refusal.{first_with, without_first}
use Rattle.diagnostics.proofs.report.take_first.Given as goal

-- no line was taken yet, and none so far has the front
abbrev pub invariant-loop-place : goal.invariant-loop-place
invariant-loop-place l =
    let lines = map string_bytes l.fn.lines.items in
    (l.lines ≡ l.fn.lines)
    × (first_with l.fn.front lines ≡ first_with l.fn.front (drop l.place lines))
    × (without_first l.fn.front lines ≡ take l.place lines ++ without_first l.fn.front (drop l.place lines))
