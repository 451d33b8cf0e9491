use Rattle.std.proofs.Common.{get_or, None, sym, ap, ◌∙◌}
use Rattle.block_summary.specs.Types.{numbers_of}
use Rattle.block_summary.proofs.TypeLemmas.{numbers-cells}
use Rattle.block_summary.proofs.packed.PackedColumn.number.Goals as goal

pub returns : goal.returns
returns c =
    let same = sym (numbers-cells c.numbers_stand_for_cells.ensures c.self.inside.kind c.self.inside.numbers c.self.invariant) ∙ ap numbers_of c.self.view_is in
    c.get.ensures ∙ ap (λ xs. get_or xs c.args.row None) same
