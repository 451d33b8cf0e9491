use Rattle.std.proofs.Common.{◌<◌, length, string_bytes, sym, ap, subst, arith}
use Rattle.std.proofs.lemmas.List.{length-map}
use Rattle.value_rows.specs.Packed.{slot_view, IsSlot}
use Rattle.value_rows.proofs.PackedLemmas.{slot-at}
use Rattle.value_rows.proofs.packed.PackedValues.lent.Goals as goal

pub lent_at-requires : goal.lent_at-requires
lent_at-requires c =
    let texts = string_bytes c.self.inside.texts in
    let others = c.self.inside.others.items in
    let slots = c.self.inside.slots.items in
    let inside : c.args.place < length slots = omega (arith, c.requires, ap length c.self.view_is, length-map slots (slot_view texts others)) in
    rw c.as_slice.ensures.value (subst (IsSlot texts others c.args.place) (sym c.index.ensures) (slot-at texts others 0 slots c.args.place c.args.place c.index.result.now (omega arith) inside c.self.invariant))
