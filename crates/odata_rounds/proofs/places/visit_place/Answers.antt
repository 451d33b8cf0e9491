use Rattle.std.proofs.Common.{◌≡◌, ◌<◌, ℕ, zero, suc, List, [], ◌∷◌, length, Some, refl, arith}
use Rattle.std.specs.Prelude.{slice_get}
use Rattle.odata_rounds.specs.declared.slot.Slot.{Slot}
use Rattle.odata_rounds.proofs.places.visit_place.Goals as goal

-- what is kept of a place
slot_at : (slots : List Slot) (place : ℕ) → place < length slots → (slot : Slot) × (slice_get slots place ≡ Some slot)
slot_at [] place lt = absurd (omega (arith, lt))
slot_at (x ∷ slots) zero lt = (x, refl)
slot_at (x ∷ slots) (suc place) lt = slot_at slots place (omega (arith, lt))

pub returns-clause-visit : goal.returns-clause-visit
returns-clause-visit g c =
    let there = slot_at c.args.slots.now c.args.place c.requires.slot in
    record { slot = there.0; next = record { state = c.visit-slot.result }; slot_is = there.1; slots_are = refl; serves = c.visit-slot.ensures }
