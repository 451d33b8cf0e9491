use Rattle.std.proofs.Common.{sym, ap, ◌∙◌}
use Rattle.block_summary.specs.Types.{cells_of_kind, numbers_of}
use Rattle.block_summary.proofs.TypeLemmas.{numbers-cells}
use Rattle.block_summary.proofs.packed.PackedColumn.kind.Goals as goal

pub returns : goal.returns
returns c =
    let same = ap numbers_of (sym c.self.view_is) ∙ numbers-cells c.numbers_stand_for_cells.ensures c.self.inside.kind c.self.inside.numbers c.self.invariant in
    ap (cells_of_kind c.self.inside.kind) same ∙ c.self.view_is
