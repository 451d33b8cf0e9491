use Rattle.std.proofs.Common.{string_bytes, take, map, sym, ap, ◌∙◌}
use Rattle.std.proofs.lemmas.List.{take-map}
use Rattle.value_rows.specs.Packed.{slot_view}
use Rattle.value_rows.proofs.PackedLemmas.{slots-cut}
use Rattle.value_rows.proofs.packed.PackedValues.truncate.Goals as goal

pub invariant_of-self : goal.invariant_of-self
invariant_of-self c = rw c.truncate.ensures.items (slots-cut _ _ 0 c.args.len c.self.inside.slots.items c.self.invariant)

pub returns : goal.returns
returns c =
    ap (map (slot_view (string_bytes c.self.inside.texts) c.self.inside.others.items)) c.truncate.ensures.items
    ∙ sym (take-map (slot_view (string_bytes c.self.inside.texts) c.self.inside.others.items) c.args.len c.self.inside.slots.items) ∙ ap (take c.args.len) c.self.view_is
