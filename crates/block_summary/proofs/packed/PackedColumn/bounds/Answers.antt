use Rattle.std.proofs.Common.{sym, ap, ◌∙◌, subst}
use Rattle.std.specs.Prelude.{MatchOption}
use Rattle.block_summary.specs.Cells.{AreBounds, AreNull}
use Rattle.block_summary.specs.Types.{numbers_of}
use Rattle.block_summary.proofs.TypeLemmas.{numbers-cells}
use Rattle.block_summary.proofs.packed.PackedColumn.bounds.Goals as goal

pub returns : goal.returns
returns c =
    let same = sym (numbers-cells c.numbers_stand_for_cells.ensures c.self.inside.kind c.self.inside.numbers c.self.invariant) ∙ ap numbers_of c.self.view_is in
    subst (λ xs. MatchOption c.bounds.result (AreNull xs) (λ b. AreBounds b.least b.greatest xs)) same c.bounds.ensures
