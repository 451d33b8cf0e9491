-- Schedules in which nothing more of its stream comes to a connection that is over (RFC 9112, section 9.6).
use Rattle.std.specs.Prelude.{◌≡◌, ⊤, ℕ, Bool, false, List, [], ◌∷◌, Option, Some, None}
use Rattle.odata_hub.specs.Connections.{Call, ConnOf, End, Piece, Take, Turn, is_over}
use Rattle.odata_hub.specs.Schedules.{Drop, Event, Happening, HubOf, HubRun, HubStep, On, Open, Reload, conn_at}

-- whether a connection is over: a closing head was cut off its stream, and all replies were taken; where there is none, none is
abbrev pub is_over_of : Option ConnOf → Bool
is_over_of None = false
is_over_of (Some c) = is_over c

abbrev pub is_over_at : HubOf → ℕ → Bool
is_over_at h place = is_over_of (conn_at h place)

-- a piece, and the end of the stream, come only to a connection that is not over
abbrev pub MayCall : Bool → Call → Type 0
MayCall over (Piece catalog bytes) = over ≡ false
MayCall over End = over ≡ false
MayCall over Turn = ⊤
MayCall over (Take room) = ⊤

abbrev pub MayHappen : HubOf → Event → Type 0
MayHappen h Open = ⊤
MayHappen h (On place call) = MayCall (is_over_at h place) call
MayHappen h (Drop place) = ⊤
MayHappen h (Reload catalog) = ⊤

-- a schedule in which that is so of each piece and each end
abbrev pub ServingRun : HubOf → List Happening → HubOf → Type 0
ServingRun old [] new = new ≡ old
ServingRun old (h ∷ hs) new = (mid : HubOf) × HubStep old h.event h.answer mid × MayHappen old h.event × ServingRun mid hs new

-- it is a schedule: what holds of a connection in every schedule holds there
abbrev pub AreSchedules : Type 0
AreSchedules = (old new : HubOf) (events : List Happening) → ServingRun old events new → HubRun old events new
