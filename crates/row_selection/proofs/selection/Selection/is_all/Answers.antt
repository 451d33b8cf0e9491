use Rattle.std.proofs.Common.{ℕ, List, ap, length, sym, ◌∙◌}
use Rattle.row_selection.specs.Numbers.{numbers_from}
use Rattle.row_selection.specs.Selection.{chosen_view}
use Rattle.row_selection.proofs.NumberLemmas.{length-from}
use Rattle.row_selection.proofs.selection.Selection.is_all.Goals as goal

pub returns-in-All : goal.returns-in-All
returns-in-All c = λ yes.
    let view = ap chosen_view (sym c.in-All.is) ∙ c.self.view_is in
    sym view ∙ ap (numbers_from 0) (sym (length-from 0 c.in-All.field-0) ∙ ap (λ (ns : List ℕ). length ns) view)
