-- What is kept of the places of a hub.
use Rattle.std.specs.Prelude.{◌≡◌, ◌≢◌, ◌==◌, ◌⊎◌, ℕ, Bool, true, false, not, List, length, replicate, Option, Some, None, slice_get}
use Rattle.table_store.specs.Catalog.{CatalogOf}
use Rattle.odata_hub.specs.declared.hub.Hub.{Hub}
use Rattle.odata_hub.specs.Hopeless.{IsHopeless, MayBegin, TellsHopeless}
use Rattle.odata_hub.specs.Connections.{ConnOf}
use Rattle.odata_hub.specs.Schedules.{HubOf, conn_at}
use Rattle.odata_hub.specs.Stands.{Models}
use Rattle.odata_rounds.specs.declared.answers.SlotState.{SlotState}
use Rattle.odata_rounds.specs.declared.answers.SlotState.TheVariants.{Free}
use Rattle.odata_rounds.specs.declared.slot.Slot.{Slot}
use Rattle.odata_rounds.specs.Lives.{free_slot}
use Rattle.listen_sockets.specs.declared.slow.Due.{Due}
use Rattle.listen_sockets.specs.declared.slow.TimeLimits.{TimeLimits}
use Rattle.listen_sockets.specs.declared.slow.Seen.{Seen}
use Rattle.listen_sockets.specs.declared.sockets.Wire.{Wire}
use Rattle.listen_sockets.specs.Slow.{due_where}
use Rattle.listen_sockets.specs.Peer.{after_end, after_visit}
use Rattle.listen_sockets.specs.Sockets.{ChangesPeer, free_wire, is_awake_at, is_ended_at, times_at}

-- `places` places over some tables: the hub's are free, nothing became of any, and none has a socket
pub record AreFree (catalog : CatalogOf) (places : ℕ) (hub : Hub) (slots : List Slot) (wires : List Wire) : Type 0 where
  pub stands : Models hub (record { catalog = catalog; places = replicate places None })
  pub slots_are : slots ≡ replicate places free_slot
  pub wires_are : wires ≡ replicate places free_wire

-- what became of a place; where there is none, no connection is there
abbrev pub state_of : Option Slot → SlotState
state_of None = Free
state_of (Some slot) = slot.state

abbrev pub state_at : List Slot → ℕ → SlotState
state_at slots place = state_of (slice_get slots place)

-- whether output of a connection waits for its socket
abbrev pub has_waiting : Option ConnOf → Bool
has_waiting None = false
has_waiting (Some c) = not (length c.output == 0)

-- a visit that worked is noted of the socket at a place, by whether output of its connection waits
abbrev pub NotesWork : ℕ → ℕ → Hub → List Wire → List Wire → Type 0
NotesWork now place hub old new = (h : HubOf) → Models hub h → ChangesPeer place (after_visit now (has_waiting (conn_at h place))) old new

-- what is known of a connection beside its times
abbrev pub seen_at : Bool → Option ConnOf → List Wire → ℕ → Seen
seen_at crowded conn wires place = record { crowded = crowded; awake = is_awake_at wires place; waits = has_waiting conn }

-- this is due of the connection at a place
abbrev pub IsDueAt : TimeLimits → Bool → ℕ → ℕ → Hub → List Wire → Due → Type 0
IsDueAt limits crowded now place hub wires due =
    (h : HubOf) → Models hub h → due ≡ due_where limits (seen_at crowded (conn_at h place) wires place) now (times_at wires place)

-- whether the rest of the connection at a place can begin no head any more; if there is none, it is not reported so
abbrev pub TellsHopelessOf : Option ConnOf → Bool → Type 0
TellsHopelessOf None told = told ≡ false
TellsHopelessOf (Some c) told = TellsHopeless c.rest told

-- Whether a stream stands ended, before and after: it is ended where the rest of its connection can begin no head any more; where that may begin one, and
-- where there is no connection, it stands as it stood.
abbrev pub IsEndedIfHopeless : Option ConnOf → Bool → Bool → Type 0
IsEndedIfHopeless None old new = new ≡ old
IsEndedIfHopeless (Some c) old new = (IsHopeless c.rest × (new ≡ true)) ⊎ (MayBegin c.rest × (new ≡ old))

-- so it is with the stream at a place of a hub, and all others stand as they stood
pub record EndsHopeless (place : ℕ) (hub : Hub) (old new : List Wire) : Type 0 where
  pub here : (h : HubOf) → Models hub h → IsEndedIfHopeless (conn_at h place) (is_ended_at old place) (is_ended_at new place)
  pub others : (other : ℕ) → other ≢ place → is_ended_at new other ≡ is_ended_at old other

-- The sockets of the places, before and after: the stream at a place is ended where the rest of its connection can begin no head any more; where that may
-- begin one, and where there is no connection, all are as they were.
abbrev pub IsEndIfHopeless : ℕ → ℕ → Option ConnOf → List Wire → List Wire → Type 0
IsEndIfHopeless now place None old new = new ≡ old
IsEndIfHopeless now place (Some c) old new =
    (IsHopeless c.rest × ChangesPeer place (after_end now) old new) ⊎ (MayBegin c.rest × (new ≡ old))

abbrev pub EndsIfHopeless : ℕ → ℕ → Hub → List Wire → List Wire → Type 0
EndsIfHopeless now place hub old new = (h : HubOf) → Models hub h → IsEndIfHopeless now place (conn_at h place) old new
