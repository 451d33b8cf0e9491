use Rattle.value_rows.proofs.slots.packed_slot.Goals as goal

pub returns-in-Some-clause-slot : goal.returns-in-Some-clause-slot
returns-in-Some-clause-slot c = rw (c.in-Text.is, ← c.as_str.ensures.value) ((rw c.in-Some.is at c.in_ok-slot.ensures.slot) c.args.others.now.items c.args.place)
