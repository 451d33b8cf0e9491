use Rattle.std.proofs.Common.{ℕ, List, ap, length, sym, ◌∙◌}
use Rattle.row_selection.specs.Selection.{chosen_view}
use Rattle.row_selection.proofs.NumberLemmas.{length-from}
use Rattle.row_selection.proofs.selection.Selection.len.Goals as goal

pub returns-in-All : goal.returns-in-All
returns-in-All c = sym (length-from 0 c.in-All.count) ∙ ap (λ rows. length (chosen_view rows)) (sym c.in-All.is) ∙ ap (λ (ns : List ℕ). length ns) c.self.view_is
