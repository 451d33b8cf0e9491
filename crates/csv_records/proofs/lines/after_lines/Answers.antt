use Rattle.std.proofs.Common.{◌≡◌, ◌∙◌, ℕ, suc, ◌+◌, ◌-◌, ◌<◌, List, ap, arith}
use Rattle.csv_records.specs.Lines.{after_lines}
use Rattle.csv_records.proofs.lines.after_lines.Goals as goal

one_more : (count line : ℕ) (left after : List ℕ) → line < count → after_lines (count - line) left ≡ after → after_lines (suc (count - (line + 1))) left ≡ after
one_more count line left after below e =
    let next : suc (count - (line + 1)) ≡ count - line = omega arith in
    ap (λ (n : ℕ). after_lines n left) next ∙ e

pub loop-line-preserved : goal.loop-line-preserved
loop-line-preserved c =
    ap (after_lines (c.args.count - (c.loop-line._line + 1))) c.after_line-left.ensures
    ∙ one_more c.args.count c.loop-line._line c.loop-line.left.now (after_lines c.args.count c.args.text.now) c.loop-line-test.true c.loop-line.invariant
