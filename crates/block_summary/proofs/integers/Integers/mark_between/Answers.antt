use Rattle.std.proofs.Common.{length, sym, ap, ◌∙◌, rules, w64}
use Rattle.std.specs.Prelude.{FitsSigned}
use Rattle.std.proofs.lemmas.Int.{to_z-of_z}
use Rattle.frame_of_reference.specs.OffsetList.{offset_list}
use Rattle.block_summary.proofs.CellLemmas.{length-cells}
use Rattle.block_summary.proofs.MarkLemmas.{high-is, low-is, marked-between, none-between}
use Rattle.block_summary.proofs.SpanLemmas.{less, not-less}
use Rattle.block_summary.proofs.integers.Integers.mark_between.Goals as goal

pub returns-then-bounds-self : goal.returns-then-bounds-self
returns-then-bounds-self c =
    let least_fits : FitsSigned w64 c.self.inside.least = search rules in
    let high_fits : FitsSigned w64 c.args.bounds.greatest = search rules in
    none-between c.args.bounds c.self.inside.nulls.items c.self.inside.least (offset_list c.self.inside.offsets) c.args.self.now (length c.args.out.now) c.fill.new.self
    c.self.view_is (less c.args.bounds.greatest c.self.inside.least (simp to_z-of_z at c.if-bounds-self.true)) c.requires (c.fill.ensures.after (λ y e. e))

pub mark_each-requires : goal.mark_each-requires
mark_each-requires c = c.requires ∙ ap length (sym c.self.view_is) ∙ length-cells c.self.inside.nulls.items c.self.inside.least (offset_list c.self.inside.offsets)

pub returns : goal.returns
returns c =
    let least_fits : FitsSigned w64 c.self.inside.least = search rules in
    let low_fits : FitsSigned w64 c.args.bounds.least = search rules in
    let high_fits : FitsSigned w64 c.args.bounds.greatest = search rules in
    let max_fits : FitsSigned w64 c.max.result = search rules in
    let low = low-is c.args.bounds c.self.inside.least c.max.result c.abs_diff-low.result (simp to_z-of_z at c.max.ensures.value) (simp to_z-of_z at c.abs_diff-low.ensures) in
    let high = high-is c.args.bounds c.self.inside.least c.abs_diff-high.result (not-less c.args.bounds.greatest c.self.inside.least (simp to_z-of_z at c.if-bounds-self.false))
    (simp to_z-of_z at c.abs_diff-high.ensures) in
    let size = c.mark_each.auto.out ∙ c.requires ∙ ap length (sym c.self.view_is) ∙ length-cells c.self.inside.nulls.items c.self.inside.least (offset_list c.self.inside.offsets) in
    marked-between c.args.bounds c.self.inside.nulls.items c.as_slice.result.now c.self.inside.least (offset_list c.self.inside.offsets) c.args.self.now c.abs_diff-low.result
    c.abs_diff-high.result c.mark_each.new.out c.unmark_nulls.new.out c.self.view_is c.as_slice.ensures.value low high size c.unmark_nulls.auto.out c.mark_each.ensures c.unmark_nulls.ensures
