-- What a visit sees of a hub and its places.
use Rattle.std.specs.Prelude.{◌≡◌, ℕ, List, MatchOption, slice_get, slice_set, Some}
use Rattle.odata_hub.specs.declared.hub.Hub.{Hub}
use Rattle.odata_rounds.specs.declared.slot.Slot.{Slot}
use Rattle.odata_rounds.specs.Peers.{WireOf}
use Rattle.odata_rounds.specs.Visits.{Serves}

-- the hub, what is kept of each place beside it, and the sockets
pub record SightOf : Type 0 where
  pub hub : Hub
  pub slots : List Slot
  pub wires : ℕ → WireOf

abbrev pub sight : Hub → List Slot → (ℕ → WireOf) → SightOf
sight hub slots wires = record { hub = hub; slots = slots; wires = wires }

-- one visit at a place; the slots of the others are as they were
pub record ServesAt (place : ℕ) (old new : SightOf) : Type 0 where
  pub slot : Slot
  pub next : Slot
  pub slot_is : slice_get old.slots place ≡ Some slot
  pub slots_are : new.slots ≡ slice_set old.slots place next
  pub serves : Serves place old.hub new.hub old.wires new.wires next.state

-- the same, where there is such a place; else nothing happened
abbrev pub VisitsAt : ℕ → SightOf → SightOf → Type 0
VisitsAt place old new = MatchOption (slice_get old.slots place) (new ≡ old) (λ slot. ServesAt place old new)
