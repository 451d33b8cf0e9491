use Rattle.std.proofs.Common.{sym, ◌∙◌, rules, w64}
use Rattle.std.specs.Prelude.{FitsSigned}
use Rattle.std.proofs.lemmas.Int.{to_z-of_z}
use Rattle.frame_of_reference.specs.OffsetList.{offset_list}
use Rattle.block_summary.proofs.MarkLemmas.{all-fit, plain-marks, turned-marks}
use Rattle.block_summary.proofs.integers.Integers.mark_passing.Goals as goal

pub returns-then-is_turned : goal.returns-then-is_turned
returns-then-is_turned c =
    let least_fits : FitsSigned w64 c.self.inside.least = search rules in
    let literal_fits : FitsSigned w64 c.args.literal = search rules in
    let fits = all-fit c.self.inside.nulls.items c.self.inside.least (offset_list c.self.inside.offsets) c.args.self.now c.self.view_is least_fits c.self.invariant.0 in
    turned-marks c.args.op c.args.literal c.span_of.result c.args.self.now c.mark_between.new.out c.turn_each.new.out (simp to_z-of_z at c.span_of.ensures) fits
    (c.mark_between.auto.out ∙ c.requires) c.turn_each.auto.out (sym c.is_turned.ensures ∙ c.if-is_turned.true) c.mark_between.ensures c.turn_each.ensures

pub returns-else-is_turned : goal.returns-else-is_turned
returns-else-is_turned c =
    let least_fits : FitsSigned w64 c.self.inside.least = search rules in
    let literal_fits : FitsSigned w64 c.args.literal = search rules in
    let fits = all-fit c.self.inside.nulls.items c.self.inside.least (offset_list c.self.inside.offsets) c.args.self.now c.self.view_is least_fits c.self.invariant.0 in
    plain-marks c.args.op c.args.literal c.span_of.result c.args.self.now c.mark_between.new.out (simp to_z-of_z at c.span_of.ensures) fits
    (c.mark_between.auto.out ∙ c.requires) (sym c.is_turned.ensures ∙ c.if-is_turned.false) c.mark_between.ensures
