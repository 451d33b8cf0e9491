use Rattle.std.proofs.Common.{sym, ap, ◌∙◌, rules}
use Rattle.std.specs.Prelude.{FitsSigned}
use Rattle.std.specs.Int.{w128}
use Rattle.std.proofs.lemmas.Int.{to_z-of_z}
use Rattle.block_summary.specs.Sums.{number_sum}
use Rattle.block_summary.specs.Types.{numbers_of}
use Rattle.block_summary.proofs.TypeLemmas.{numbers-cells}
use Rattle.block_summary.proofs.packed.PackedColumn.sum.Goals as goal

pub returns : goal.returns
returns c =
    let fits : FitsSigned w128 c.sum.result = search rules in
    let same = sym (numbers-cells c.numbers_stand_for_cells.ensures c.self.inside.kind c.self.inside.numbers c.self.invariant) ∙ ap numbers_of c.self.view_is in
    simp to_z-of_z (c.sum.ensures ∙ ap number_sum same)
