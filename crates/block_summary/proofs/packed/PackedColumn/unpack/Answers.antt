use Rattle.std.proofs.Common.{get_or, None, sym, ap, ◌∙◌}
use Rattle.block_summary.specs.Types.{numbers_of}
use Rattle.block_summary.proofs.TypeLemmas.{numbers-cells}
use Rattle.block_summary.proofs.packed.PackedColumn.unpack.Goals as goal

pub returns : goal.returns
returns c = λ i number e.
    let same = sym (numbers-cells c.numbers_stand_for_cells.ensures c.self.inside.kind c.self.inside.numbers c.self.invariant) ∙ ap numbers_of c.self.view_is in
    c.unpack.ensures i number (ap (λ xs. get_or xs i None) same ∙ e)
