use Rattle.std.proofs.Common.{map, sym, ap, ◌∙◌, rules, w64}
use Rattle.std.specs.Prelude.{FitsSigned}
use Rattle.std.proofs.lemmas.Int.{to_z-of_z}
use Rattle.block_summary.specs.Passing.{number_passes}
use Rattle.block_summary.specs.Types.{numbers_of}
use Rattle.block_summary.proofs.TypeLemmas.{numbers-cells}
use Rattle.block_summary.proofs.packed.PackedColumn.mark_passing.Goals as goal

pub returns : goal.returns
returns c =
    let fits : FitsSigned w64 c.args.literal = search rules in
    let same = sym (numbers-cells c.numbers_stand_for_cells.ensures c.self.inside.kind c.self.inside.numbers c.self.invariant) ∙ ap numbers_of c.self.view_is in
    (simp to_z-of_z at c.mark_passing.ensures) ∙ ap (map (number_passes c.args.op c.args.literal)) same
