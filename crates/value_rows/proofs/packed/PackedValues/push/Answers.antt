use Rattle.std.proofs.Common.{◌≡◌, ◌+◌, ◌++◌, ◌∷◌, [], length, map, string_bytes, ap, ◌∙◌, arith}
use Rattle.std.proofs.lemmas.List.{map_push}
use Rattle.cell_types.proofs.CaseLaws.{OnErr-from}
use Rattle.value_rows.specs.Packed.{slot_view}
use Rattle.value_rows.proofs.PackedLemmas.{grown, slots-pushed}
use Rattle.value_rows.proofs.packed.PackedValues.push.Goals as goal

pub invariant_of-self : goal.invariant_of-self
invariant_of-self c =
    let texts = string_bytes c.packed_slot.new.texts in
    let others = c.packed_slot.new.others.items in
    let slots = c.self.inside.slots.items in
    let stay = grown (string_bytes c.self.inside.texts) c.self.inside.others.items texts others c.packed_slot.ensures.grow 0 slots c.self.invariant in
    stay.0

pub returns-in_err-slot-clause-refused : goal.returns-in_err-slot-clause-refused
returns-in_err-slot-clause-refused c =
    let texts = string_bytes c.packed_slot.new.texts in
    let others = c.packed_slot.new.others.items in
    let slots = c.self.inside.slots.items in
    let stay = grown (string_bytes c.self.inside.texts) c.self.inside.others.items texts others c.packed_slot.ensures.grow 0 slots c.self.invariant in
    OnErr-from c.from_residual.result _ (stay.1 ∙ c.self.view_is)

pub invariant_of-self-in_err-push : goal.invariant_of-self-in_err-push
invariant_of-self-in_err-push c =
    let texts = string_bytes c.packed_slot.new.texts in
    let others = c.packed_slot.new.others.items in
    let slots = c.self.inside.slots.items in
    let stay = grown (string_bytes c.self.inside.texts) c.self.inside.others.items texts others c.packed_slot.ensures.grow 0 slots c.self.invariant in
    rw c.in_err-push.ensures.items stay.0

pub returns-in_err-push-clause-refused : goal.returns-in_err-push-clause-refused
returns-in_err-push-clause-refused c =
    let texts = string_bytes c.packed_slot.new.texts in
    let others = c.packed_slot.new.others.items in
    let slots = c.self.inside.slots.items in
    let stay = grown (string_bytes c.self.inside.texts) c.self.inside.others.items texts others c.packed_slot.ensures.grow 0 slots c.self.invariant in
    OnErr-from c.from_residual-in_err-push.result _ (ap (map (slot_view texts others)) c.in_err-push.ensures.items ∙ stay.1 ∙ c.self.view_is)

pub invariant_of-self-2 : goal.invariant_of-self-2
invariant_of-self-2 c =
    let texts = string_bytes c.packed_slot.new.texts in
    let others = c.packed_slot.new.others.items in
    let slots = c.self.inside.slots.items in
    let stay = grown (string_bytes c.self.inside.texts) c.self.inside.others.items texts others c.packed_slot.ensures.grow 0 slots c.self.invariant in
    let end : c.len-place.result ≡ 0 + length slots = omega (arith, c.len-place.ensures, c.self.inside.slots.ok.0) in
    rw c.in_ok-push.ensures.items (slots-pushed texts others 0 slots c.len-place.result c.in_ok-slot.slot end stay.0 c.in_ok-slot.ensures.slot.is)

pub returns-clause-pushed : goal.returns-clause-pushed
returns-clause-pushed c =
    let texts = string_bytes c.packed_slot.new.texts in
    let others = c.packed_slot.new.others.items in
    let slots = c.self.inside.slots.items in
    let stay = grown (string_bytes c.self.inside.texts) c.self.inside.others.items texts others c.packed_slot.ensures.grow 0 slots c.self.invariant in
    let view = slot_view texts others in
    ap (map view) c.in_ok-push.ensures.items ∙ map_push view slots c.in_ok-slot.slot ∙ ap (λ vs. vs ++ view c.in_ok-slot.slot ∷ []) (stay.1 ∙ c.self.view_is)
    ∙ ap (λ v. c.args.self.now ++ v ∷ []) c.in_ok-slot.ensures.slot.view
