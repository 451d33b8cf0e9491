-- The life of a service over a hub: its visits, and between them connections that are opened, places that are given back, and other tables.
use Rattle.std.specs.Prelude.{◌≡◌, ◌≢◌, ⊤, ℕ, List, [], ◌∷◌, ◌++◌, slice_set}
use Rattle.table_store.specs.Catalog.{CatalogOf}
use Rattle.odata_hub.specs.declared.answers.HubFault.{HubFault}
use Rattle.odata_hub.specs.Connections.{Answer, Done, Opened, Refused}
use Rattle.odata_hub.specs.Schedules.{Drop, Event, Happening, Open, Reload, opened, own_of}
use Rattle.odata_hub.specs.Stands.{IsHubStep}
use Rattle.odata_rounds.specs.declared.answers.SlotState.{SlotState}
use Rattle.odata_rounds.specs.declared.answers.SlotState.TheVariants as became
use Rattle.odata_rounds.specs.declared.slot.Slot.{Slot}
use Rattle.odata_rounds.specs.Peers.{WireOf}
use Rattle.odata_rounds.specs.Visits.{IsHubRun, Moves}
use Rattle.odata_rounds.specs.Sights.{ServesAt, SightOf}

-- the slot of a place of which nothing became
abbrev pub free_slot : Slot
free_slot = record { state = became.Free }

-- what a service does: a visit at a place; a connection is opened at a place, or none is; a place is given back; other tables; or nothing of these
pub data Deed : Type 0 where
  Visits : (place : ℕ) → Deed
  Opens : (place : ℕ) → Deed
  Refuses : (fault : HubFault) → Deed
  Frees : (place : ℕ) (answer : Answer) → Deed
  Reloads : (catalog : CatalogOf) → Deed
  Stands : Deed

-- the same socket is there, and tells of the same bytes as before
abbrev pub KeepsSocket : WireOf → WireOf → Type 0
KeepsSocket old new = (new.socket ≡ old.socket) × (new.left ≡ old.left) × (new.taken ≡ old.taken)

-- what is kept of each place, and each socket with what it tells, are as they were
pub record KeepsAll (old new : SightOf) : Type 0 where
  pub slots : new.slots ≡ old.slots
  pub sockets : (place : ℕ) → KeepsSocket (old.wires place) (new.wires place)

-- a place is cleared, which may have another socket now; all other places are as they were
pub record Clears (place : ℕ) (old new : SightOf) : Type 0 where
  pub slots : new.slots ≡ slice_set old.slots place free_slot
  pub sockets : (other : ℕ) → other ≢ place → KeepsSocket (old.wires other) (new.wires other)

-- no connection is over, lost or failed whose place was not given back
abbrev pub IsSettledBy : SlotState → Type 0
IsSettledBy became.Free = ⊤
IsSettledBy became.Rests = ⊤
IsSettledBy became.Worked = ⊤
IsSettledBy became.Answered = ⊥
IsSettledBy became.Lost = ⊥
IsSettledBy became.Failed = ⊥

abbrev pub AreSettled : List Slot → Type 0
AreSettled [] = ⊤
AreSettled (slot ∷ slots) = IsSettledBy slot.state × AreSettled slots

-- Each is one step of the hub, or the calls of a visit. A visit begins only where each place was given back whose connection is over, lost or failed.
abbrev pub IsDeed : Deed → SightOf → SightOf → Type 0
IsDeed (Visits place) old new = AreSettled old.slots × ServesAt place old new
IsDeed (Opens place) old new = IsHubStep old.hub Open (Opened place) new.hub × Clears place old new
IsDeed (Refuses fault) old new = IsHubStep old.hub Open (Refused fault) new.hub × KeepsAll old new
IsDeed (Frees place answer) old new = IsHubStep old.hub (Drop place) answer new.hub × Clears place old new
IsDeed (Reloads catalog) old new = IsHubStep old.hub (Reload catalog) Done new.hub × KeepsAll old new
IsDeed Stands old new = (new.hub ≡ old.hub) × KeepsAll old new

-- these, one after another
abbrev pub Lives : SightOf → List Deed → SightOf → Type 0
Lives old [] new = new ≡ old
Lives old (deed ∷ deeds) new = (mid : SightOf) × IsDeed deed old mid × Lives mid deeds new

-- a place is neither taken nor given back
abbrev pub IsElsewhere : ℕ → Deed → Type 0
IsElsewhere place (Visits at) = ⊤
IsElsewhere place (Opens at) = at ≢ place
IsElsewhere place (Refuses fault) = ⊤
IsElsewhere place (Frees at answer) = at ≢ place
IsElsewhere place (Reloads catalog) = ⊤
IsElsewhere place Stands = ⊤

abbrev pub AreElsewhere : ℕ → List Deed → Type 0
AreElsewhere place [] = ⊤
AreElsewhere place (deed ∷ deeds) = IsElsewhere place deed × AreElsewhere place deeds

-- What the socket of a connection took and what was read from it, from where the connection was opened: by its own events of a
-- schedule that begins there.
pub record MovesSince (place : ℕ) (old start end : SightOf) : Type 0 where
  pub events : List Happening
  pub run : IsHubRun old.hub (opened place ∷ events) end.hub
  pub moves : Moves (start.wires place) (end.wires place) (own_of place events)

-- each connection of a life: `during` is what happens after its opening, and before its place is given back
pub record IsCarried (place : ℕ) (old : SightOf) (before during after : List Deed) (new : SightOf) : Type 0 where
  pub opening : SightOf
  pub start : SightOf
  pub end : SightOf
  pub earlier : Lives old before opening
  pub moves : MovesSince place opening start end
  pub later : Lives end after new

abbrev pub LivesMove : Type 0
LivesMove = (old new : SightOf) (place : ℕ) (before during after : List Deed)
    → Lives old (before ++ Opens place ∷ (during ++ after)) new → AreElsewhere place during → IsCarried place old before during after new
