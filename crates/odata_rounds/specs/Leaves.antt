-- What a visit leaves at a place: output of one reply, and where it did nothing, nothing is left to be done.
use Rattle.std.specs.Prelude.{◌≡◌, ◌≢◌, ◌⊎◌, ⊤, ℕ, Bool, true, false, List, [], ◌++◌, Option, Some, None, slice_get}
use Rattle.odata_http.specs.Replies.{last_reply}
use Rattle.odata_hub.specs.Connections.{ConnOf, works}
use Rattle.odata_hub.specs.Replies.{IsReplyTo}
use Rattle.odata_hub.specs.Schedules.{Happening, HubOf, conn_at}
use Rattle.odata_hub.specs.Stands.{Models}
use Rattle.odata_hub.specs.Streams.{Asked}
use Rattle.odata_rounds.specs.declared.answers.SlotState.{SlotState}
use Rattle.odata_rounds.specs.declared.answers.SlotState.TheVariants.{Free, Rests, Worked, Answered, Lost, Failed}
use Rattle.odata_rounds.specs.declared.slot.Slot.{Slot}
use Rattle.odata_rounds.specs.Comes.{ServingRun, is_over_at}
use Rattle.odata_rounds.specs.Sights.{ServesAt, SightOf}
use Rattle.odata_rounds.specs.Laws.{AreCalls}

-- the whole reply to one head, or to what is left of a stream; an empty rest has none
abbrev pub IsOneReply : List ℕ → Type 0
IsOneReply reply = ((a : Asked) × IsReplyTo a reply) ⊎ ((rest : List ℕ) × (reply ≡ last_reply rest))

-- the output is the back of one reply
pub record AreOfOneReply (output : List ℕ) : Type 0 where
  pub sent : List ℕ
  pub reply : List ℕ
  pub one : IsOneReply reply
  pub whole : sent ++ output ≡ reply

-- the output of what a place holds
abbrev pub output_of : Option ConnOf → List ℕ
output_of None = []
output_of (Some c) = c.output

-- no more than one reply waits at a place
abbrev pub HoldsOneReply : HubOf → ℕ → Type 0
HoldsOneReply h place = AreOfOneReply (output_of (conn_at h place))

-- Nothing is left to be done before the socket takes or has bytes: the place is free, or output waits for the socket, or there is no output and a turn
-- finds nothing to do; or memory ran out for the connection.
abbrev pub IsAtEase : Option ConnOf → Type 0
IsAtEase None = ⊤
IsAtEase (Some c) = (c.output ≢ []) ⊎ ((c.output ≡ []) × ((works c ≡ false) ⊎ (c.failed ≡ true)))

-- what a place may be told whose connection is over: so much, or that memory ran out; or the visit worked
abbrev pub MayTellOver : SlotState → Type 0
MayTellOver Free = ⊥
MayTellOver Rests = ⊥
MayTellOver Worked = ⊤
MayTellOver Answered = ⊤
MayTellOver Lost = ⊥
MayTellOver Failed = ⊤

-- the place is reported as over
abbrev pub IsToldOver : HubOf → ℕ → Slot → Type 0
IsToldOver h place slot = is_over_at h place ≡ true → MayTellOver slot.state

abbrev pub is_worked : SlotState → Bool
is_worked Worked = true
is_worked state = false

-- what a visit leaves of a hub that stood for one: one that it stands for now, after calls on the connection at its place
pub record Leaves (place : ℕ) (old new : SightOf) (h : HubOf) : Type 0 where
  pub next : HubOf
  pub events : List Happening
  pub calls : AreCalls events
  pub run : ServingRun h events next
  pub stands : Models new.hub next
  pub one_reply : HoldsOneReply h place → HoldsOneReply next place
  pub at_ease : (slot : Slot) → slice_get new.slots place ≡ Some slot → is_worked slot.state ≡ false → IsAtEase (conn_at next place)
  pub over : (slot : Slot) → slice_get new.slots place ≡ Some slot → IsToldOver next place slot
  pub others : (other : ℕ) → other ≢ place → conn_at next other ≡ conn_at h other

-- No more than one reply waits at a place where that was so before its visit; one that did nothing leaves the place at ease; a place whose connection is
-- over is reported so; and the connections at all other places are as they were.
abbrev pub VisitLeaves : Type 0
VisitLeaves = (place : ℕ) (old new : SightOf) (h : HubOf) → ServesAt place old new → Models old.hub h → Leaves place old new h
