-- A hub, what an event does to it, and schedules.
use Rattle.std.specs.Prelude.{◌≡◌, ⊤, ℕ, Bool, true, false, List, [], ◌∷◌, is_none, slice_index_or, slice_set, Option, Some, None, if◌then◌else◌, ◌==◌}
use Rattle.std.specs.List.{position}
use Rattle.table_store.specs.Catalog.{CatalogOf}
use Rattle.odata_hub.specs.declared.answers.HubFault.TheVariants.{Full, NoSuchConnection}
use Rattle.odata_hub.specs.Connections.{ConnOf, fresh, Call, Piece, End, Turn, Take, Answer, Done, Opened, Refused, Step, Own}

-- the current tables, and the places, each free or with its connection
pub record HubOf : Type 0 where
  pub catalog : CatalogOf
  pub places : List (Option ConnOf)

pub data Event : Type 0 where
  Open : Event
  On : (place : ℕ) (call : Call) → Event
  Drop : (place : ℕ) → Event
  Reload : (catalog : CatalogOf) → Event

-- an event with its answer
pub record Happening : Type 0 where
  pub event : Event
  pub answer : Answer

-- what a place holds; nothing where there is none
abbrev pub conn_at : HubOf → ℕ → Option ConnOf
conn_at h place = slice_index_or h.places place None

-- the hub with this at one place, and all else as it was
abbrev pub hub_with : HubOf → ℕ → Option ConnOf → HubOf
hub_with h place conn = record h { places = slice_set h.places place conn }

-- a piece goes with the current tables
abbrev pub IsCurrent : CatalogOf → Call → Type 0
IsCurrent current (Piece catalog bytes) = catalog ≡ current
IsCurrent current End = ⊤
IsCurrent current Turn = ⊤
IsCurrent current (Take room) = ⊤

-- one step of the connection at the place; the current tables and every other place are as they were
pub record StepsAt (old : HubOf) (place : ℕ) (c : ConnOf) (call : Call) (answer : Answer) (new : HubOf) : Type 0 where
  pub next : ConnOf
  pub step : Step c call answer next
  pub current : IsCurrent old.catalog call
  pub new_is : new ≡ hub_with old place (Some next)

-- a call on a place that is free, or that there is not
abbrev pub IsNowhere : HubOf → Answer → HubOf → Type 0
IsNowhere old answer new = (answer ≡ Refused NoSuchConnection) × (new ≡ old)

-- `open` takes the least free place, and answers Full where there is none
abbrev pub OpensAt : HubOf → Option ℕ → Answer → HubOf → Type 0
OpensAt old None answer new = (answer ≡ Refused Full) × (new ≡ old)
OpensAt old (Some place) answer new = (answer ≡ Opened place) × (new ≡ hub_with old place (Some fresh))

-- a call on what a place holds
abbrev pub CallsOn : HubOf → ℕ → Option ConnOf → Call → Answer → HubOf → Type 0
CallsOn old place None call answer new = IsNowhere old answer new
CallsOn old place (Some c) call answer new = StepsAt old place c call answer new

-- a place is given back
abbrev pub FreesAt : HubOf → ℕ → Option ConnOf → Answer → HubOf → Type 0
FreesAt old place None answer new = IsNowhere old answer new
FreesAt old place (Some c) answer new = (answer ≡ Done) × (new ≡ hub_with old place None)

-- an event is answered so, and leads from the old hub to the new one
abbrev pub HubStep : HubOf → Event → Answer → HubOf → Type 0
HubStep old Open answer new = OpensAt old (position is_none old.places) answer new
HubStep old (On place call) answer new = CallsOn old place (conn_at old place) call answer new
HubStep old (Drop place) answer new = FreesAt old place (conn_at old place) answer new
HubStep old (Reload catalog) answer new = (answer ≡ Done) × (new ≡ record old { catalog = catalog })

-- a schedule: these events are answered so, one after another
abbrev pub HubRun : HubOf → List Happening → HubOf → Type 0
HubRun old [] new = new ≡ old
HubRun old (h ∷ hs) new = (mid : HubOf) × HubStep old h.event h.answer mid × HubRun mid hs new

-- what a happening is to the connection that is open at a place, before what else is its own
abbrev pub own_before : ℕ → Event → Answer → List Own → List Own
own_before place Open answer os = os
own_before place (On at call) answer os = if at == place then record { call = call; answer = answer } ∷ os else os
own_before place (Drop at) answer os = if at == place then [] else os
own_before place (Reload catalog) answer os = os

-- the own events of the connection that is open at a place, up to its drop
abbrev pub own_of : ℕ → List Happening → List Own
own_of place [] = []
own_of place (h ∷ hs) = own_before place h.event h.answer (own_of place hs)

abbrev pub stays_by : ℕ → Event → Bool → Bool
stays_by place Open rest = rest
stays_by place (On at call) rest = rest
stays_by place (Drop at) rest = if at == place then false else rest
stays_by place (Reload catalog) rest = rest

-- the connection at a place is not dropped
abbrev pub stays : ℕ → List Happening → Bool
stays place [] = true
stays place (h ∷ hs) = stays_by place h.event (stays place hs)

abbrev pub opened : ℕ → Happening
opened place = record { event = Open; answer = Opened place }

abbrev pub reload : CatalogOf → Happening
reload catalog = record { event = Reload catalog; answer = Done }

abbrev pub reloads_by : Event → Bool → Bool
reloads_by Open rest = rest
reloads_by (On at call) rest = rest
reloads_by (Drop at) rest = rest
reloads_by (Reload catalog) rest = true

-- there is a reload among these
abbrev pub has_reload : List Happening → Bool
has_reload [] = false
has_reload (h ∷ hs) = reloads_by h.event (has_reload hs)
