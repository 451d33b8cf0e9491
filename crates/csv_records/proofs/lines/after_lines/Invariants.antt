use Rattle.std.proofs.Common.{◌≡◌, ◌-◌}
use Rattle.csv_records.specs.Lines.{after_lines}
use Rattle.csv_records.proofs.lines.after_lines.Given as goal

-- the rest without the lines that are to come is the text without all
abbrev pub invariant-loop-line : goal.invariant-loop-line
invariant-loop-line l = after_lines (l.count - l._line) l.left ≡ after_lines l.count l.text
