use Rattle.std.proofs.Common.{ℕ, List, ap, arith, get_or, length, sym, ◌∙◌, ◌<◌}
use Rattle.row_selection.specs.Selection.{chosen_view}
use Rattle.row_selection.proofs.NumberLemmas.{get-from, length-from}
use Rattle.row_selection.proofs.selection.Selection.at.Goals as goal

pub returns-in-All : goal.returns-in-All
returns-in-All c =
    let view = ap chosen_view (sym c.in-All.is) ∙ c.self.view_is in
    let less : c.args.place < c.in-All.field-0 = omega (arith, c.requires, ap (λ (ns : List ℕ). length ns) view, length-from 0 c.in-All.field-0) in
    omega (arith, get-from 0 c.in-All.field-0 c.args.place less) ∙ ap (λ (ns : List ℕ). get_or ns c.args.place 0) view
