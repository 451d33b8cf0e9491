use Rattle.std.proofs.Common.{rules, ◌≡◌, ◌<◌, length, string_bytes, sym, ap, subst, ◌∙◌, arith}
use Rattle.std.specs.Prelude.{slice_set}
use Rattle.std.proofs.lemmas.List.{length-map, map-set}
use Rattle.std.proofs.lemmas.Option.{get_or_from_slice_get, slice_get_within}
use Rattle.cell_types.specs.Value.{value_view}
use Rattle.value_rows.specs.declared.slots.Other.{Other as OtherOf}
use Rattle.value_rows.specs.declared.slots.Slot.TheVariants.{Other}
use Rattle.cell_types.proofs.CaseLaws.{OnErr-from}
use Rattle.value_rows.specs.Packed.{slot_view, IsSlot}
use Rattle.value_rows.proofs.PackedLemmas.{grown, others-grown, slot-at, slots-changed, slots-set, value-changed}
use Rattle.value_rows.proofs.packed.PackedValues.set.Goals as goal

pub index_mut-requires : goal.index_mut-requires
index_mut-requires c =
    let texts = string_bytes c.self.inside.texts in
    let others = c.self.inside.others.items in
    let slots = c.self.inside.slots.items in
    let inside : c.args.place < length slots = omega (arith, c.requires, ap length c.self.view_is, length-map slots (slot_view texts others)) in
    let own : IsSlot texts others c.args.place (Other c.in-Other.other) = subst (IsSlot texts others c.args.place) (sym c.index.ensures ∙ c.in-Other.is)
    (slot-at texts others 0 slots c.args.place c.args.place c.index.result.now (omega arith) inside c.self.invariant) in
    let within = slice_get_within others c.in-Other.other own.0 own.1 in
    omega (arith, within, c.self.inside.others.ok.0)

pub invariant_of-self : goal.invariant_of-self
invariant_of-self c =
    let texts = string_bytes c.self.inside.texts in
    let others = c.self.inside.others.items in
    let slots = c.self.inside.slots.items in
    let inside : c.args.place < length slots = omega (arith, c.requires, ap length c.self.view_is, length-map slots (slot_view texts others)) in
    let own : IsSlot texts others c.args.place (Other c.in-Other.other) = subst (IsSlot texts others c.args.place) (sym c.index.ensures ∙ c.in-Other.is)
    (slot-at texts others 0 slots c.args.place c.args.place c.index.result.now (omega arith) inside c.self.invariant) in
    let new : OtherOf = record { place = c.index_mut.result.now.place; value = c.in_ok-self-inside.field-0 } in
    let same : new.place ≡ own.0.place = ap (λ (o : OtherOf). o.place) (c.index_mut.ensures.value ∙ get_or_from_slice_get others c.in-Other.other own.0 c.index_mut.result.now own.1) in
    slots-changed texts others c.in-Other.other own.0 new own.1 same 0 slots c.self.invariant

pub returns-in-Other-clause-set : goal.returns-in-Other-clause-set
returns-in-Other-clause-set c =
    let texts = string_bytes c.self.inside.texts in
    let others = c.self.inside.others.items in
    let slots = c.self.inside.slots.items in
    let inside : c.args.place < length slots = omega (arith, c.requires, ap length c.self.view_is, length-map slots (slot_view texts others)) in
    let own : IsSlot texts others c.args.place (Other c.in-Other.other) = subst (IsSlot texts others c.args.place) (sym c.index.ensures ∙ c.in-Other.is)
    (slot-at texts others 0 slots c.args.place c.args.place c.index.result.now (omega arith) inside c.self.invariant) in
    let new : OtherOf = record { place = c.index_mut.result.now.place; value = c.in_ok-self-inside.field-0 } in
    let same : new.place ≡ own.0.place = ap (λ (o : OtherOf). o.place) (c.index_mut.ensures.value ∙ get_or_from_slice_get others c.in-Other.other own.0 c.index_mut.result.now own.1) in
    let at = sym (sym c.in-Other.is ∙ c.index.ensures) in
    value-changed texts others c.in-Other.other own.0 new own.1 same 0 slots c.args.place c.index.result.now (omega (arith, own.2)) inside at c.self.invariant
    ∙ ap (λ vs. slice_set vs c.args.place (value_view c.in_ok-self-inside.field-0)) c.self.view_is ∙ ap (slice_set c.args.self.now c.args.place) c.in_ok-self-inside.ensures.copy

pub invariant_of-self-in_err-self-inside-2 : goal.invariant_of-self-in_err-self-inside-2
invariant_of-self-in_err-self-inside-2 c =
    let texts = string_bytes c.self.inside.texts in
    let others = c.self.inside.others.items in
    let slots = c.self.inside.slots.items in
    let inside : c.args.place < length slots = omega (arith, c.requires, ap length c.self.view_is, length-map slots (slot_view texts others)) in
    let now = c.slot_of.new.others.items in
    let stay = grown texts others texts now (others-grown texts others now c.slot_of.ensures.grows) 0 slots c.self.invariant in
    stay.0

pub returns-in_err-self-inside-2 : goal.returns-in_err-self-inside-2
returns-in_err-self-inside-2 c =
    let texts = string_bytes c.self.inside.texts in
    let others = c.self.inside.others.items in
    let slots = c.self.inside.slots.items in
    let inside : c.args.place < length slots = omega (arith, c.requires, ap length c.self.view_is, length-map slots (slot_view texts others)) in
    let now = c.slot_of.new.others.items in
    let stay = grown texts others texts now (others-grown texts others now c.slot_of.ensures.grows) 0 slots c.self.invariant in
    record { set = search rules; refused = OnErr-from c.from_residual-in_err-self-inside-2.result _ (stay.1 ∙ c.self.view_is) }

pub invariant_of-self-2 : goal.invariant_of-self-2
invariant_of-self-2 c =
    let texts = string_bytes c.self.inside.texts in
    let others = c.self.inside.others.items in
    let slots = c.self.inside.slots.items in
    let inside : c.args.place < length slots = omega (arith, c.requires, ap length c.self.view_is, length-map slots (slot_view texts others)) in
    let now = c.slot_of.new.others.items in
    let stay = grown texts others texts now (others-grown texts others now c.slot_of.ensures.grows) 0 slots c.self.invariant in
    slots-set texts now 0 slots c.args.place c.args.place c.in_ok-self-inside-2.field-0 (omega arith) stay.0 (c.in_ok-self-inside-2.ensures.slot texts).is

pub returns : goal.returns
returns c =
    let texts = string_bytes c.self.inside.texts in
    let others = c.self.inside.others.items in
    let slots = c.self.inside.slots.items in
    let inside : c.args.place < length slots = omega (arith, c.requires, ap length c.self.view_is, length-map slots (slot_view texts others)) in
    let now = c.slot_of.new.others.items in
    let stay = grown texts others texts now (others-grown texts others now c.slot_of.ensures.grows) 0 slots c.self.invariant in
    let view = slot_view texts now in
    record {
      set = map-set view slots c.args.place c.in_ok-self-inside-2.field-0 ∙ ap (λ vs. slice_set vs c.args.place (view c.in_ok-self-inside-2.field-0)) (stay.1 ∙ c.self.view_is)
          ∙ ap (slice_set c.args.self.now c.args.place) (c.in_ok-self-inside-2.ensures.slot texts).view;
      refused = tt;
    }
