-- After the first point.
use Rattle.std.proofs.Common.{◌+◌, ◌-◌, ◌≤◌, length, drop, arith, ap, ◌∙◌, drop-drop, take_all, length-drop}
use Rattle.cell_types.proofs.decimal.parts.Goals as goal

pub returns-in-len1-up-clause-fraction : goal.returns-in-len1-up-clause-fraction
returns-in-len1-up-clause-fraction c =
    let rest = c.split_at.result.1.now in
    let text = c.args.text.now in
    let place = c.whole_len.result in
    let short : length (drop 1 rest) ≤ length rest - 1 = omega (arith, length-drop 1 rest) in
    take_all (length rest - 1) (drop 1 rest) short ∙ ap (drop 1) c.split_at.ensures.back ∙ drop-drop 1 place text ∙ ap (λ n. drop (n + 1) text) c.whole_len.ensures.place
