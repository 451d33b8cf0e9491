use Rattle.std.proofs.Common.{inl, inr, length, refl, sym, ap, ◌∙◌}
use Rattle.std.proofs.lemmas.Bool.{eqb-false, eqb-true}
use Rattle.frame_of_reference.specs.OffsetList.{offset_list}
use Rattle.block_summary.proofs.CellLemmas.{length-cells, marks_are, marks_none}
use Rattle.block_summary.proofs.integers.Integers.unpack_nulls.Goals as goal

pub copy_from_slice-requires : goal.copy_from_slice-requires
copy_from_slice-requires c =
    let some = eqb-false (length c.as_slice-nulls.result.now) 0 (sym c.is_empty.ensures ∙ c.if-is_empty.false) in
    let same = ap length c.as_slice-nulls.ensures.value in
    let long = c.requires ∙ ap length (sym c.self.view_is) ∙ length-cells c.self.inside.nulls.items c.self.inside.least (offset_list c.self.inside.offsets) in
    elim c.self.invariant.1 [
      | inl none ↦ absurd (some (same ∙ ap length none))
      | inr kept ↦ long ∙ sym kept ∙ sym same
    ]

pub returns-then-is_empty : goal.returns-then-is_empty
returns-then-is_empty c =
    let none = eqb-true (length c.as_slice-nulls.result.now) 0 (sym c.is_empty.ensures ∙ c.if-is_empty.true) in
    c.fill.ensures.after (λ y e. e)
    ∙ marks_none c.self.inside.nulls.items c.self.inside.least (offset_list c.self.inside.offsets) c.args.self.now (length c.args.out.now) c.self.view_is c.requires
    (ap length (sym c.as_slice-nulls.ensures.value) ∙ none)

pub returns-else-is_empty : goal.returns-else-is_empty
returns-else-is_empty c =
    c.copy_from_slice.ensures.after ∙ c.as_slice-nulls.ensures.value
    ∙ marks_are c.self.inside.nulls.items c.self.inside.least (offset_list c.self.inside.offsets) c.args.self.now c.self.inside.nulls.items c.self.view_is
    (ap length (sym (c.copy_from_slice.ensures.after ∙ c.as_slice-nulls.ensures.value)) ∙ c.copy_from_slice.ensures.len ∙ c.requires) (λ i h. refl)
