use Rattle.std.proofs.Common.{◌≡◌, length, get_or, None, sym, ap, ◌∙◌, rules, w64}
use Rattle.std.specs.Prelude.{FitsSigned}
use Rattle.std.proofs.lemmas.Int.{to_z-of_z}
use Rattle.frame_of_reference.specs.OffsetList.{offset_list}
use Rattle.block_summary.proofs.CellLemmas.{length-cells, unpacked}
use Rattle.block_summary.proofs.integers.Integers.unpack.Goals as goal

pub add_each-requires-clause-long : goal.add_each-requires-clause-long
add_each-requires-clause-long c = c.requires ∙ ap length (sym c.self.view_is) ∙ length-cells c.self.inside.nulls.items c.self.inside.least (offset_list c.self.inside.offsets)

pub returns : goal.returns
returns c =
    let low : FitsSigned w64 c.self.inside.least = search rules in
    let long : length c.add_each.new.out ≡ length (offset_list c.self.inside.offsets)
    = c.add_each.auto.out ∙ c.requires ∙ ap length (sym c.self.view_is) ∙ length-cells c.self.inside.nulls.items c.self.inside.least (offset_list c.self.inside.offsets) in
    λ i value e. unpacked c.self.inside.nulls.items c.self.inside.least (offset_list c.self.inside.offsets) c.add_each.new.out long
    (simp to_z-of_z at c.add_each.ensures) i value (ap (λ xs. get_or xs i None) c.self.view_is ∙ e)
