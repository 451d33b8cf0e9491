-- What one visit does at a place: the calls on its connection, and what became of its socket.
use Rattle.std.specs.Prelude.{◌≡◌, ◌≢◌, ◌⊎◌, ⊤, ℕ, Bool, true, false, List, [], ◌∷◌, ◌++◌, map, Option, Some, None, Result, Ok, Err}
use Rattle.std.specs.Io.KnownBytes.{Appends, Consumes}
use Rattle.table_store.specs.Catalog.{CatalogOf}
use Rattle.odata_http.specs.Device.{Counts}
use Rattle.odata_hub.specs.declared.hub.Hub.{Hub}
use Rattle.odata_hub.specs.declared.answers.HubFault.{HubFault}
use Rattle.odata_hub.specs.declared.answers.HubFault.TheVariants as refusal
use Rattle.odata_hub.specs.declared.answers.Turned.TheVariants.{Idle, Worked as TurnWorked}
use Rattle.odata_hub.specs.Connections.{Answer, Call, ConnOf, Done, End, Gave, Own, Piece, Refused, Take, Turn, Went, input_ended, taken_of}
use Rattle.odata_hub.specs.Schedules.{Happening, HubOf, On, conn_at}
use Rattle.odata_hub.specs.Stands.{Models}
use Rattle.odata_rounds.specs.declared.answers.SlotState.{SlotState}
use Rattle.odata_rounds.specs.declared.answers.SlotState.TheVariants.{Free, Rests, Worked, Answered, Lost, Failed}
use Rattle.odata_rounds.specs.Comes.{ServingRun, is_over_at}
use Rattle.odata_rounds.specs.Peers.{KeepsOthers, WireOf}

-- a schedule of calls leads from one hub to the other, in which nothing more of its stream comes to a connection that is over
abbrev pub IsHubRun : Hub → List Happening → Hub → Type 0
IsHubRun old events new = (h : HubOf) → Models old h → (n : HubOf) × ServingRun h events n × Models new n

-- the calls on the connection at a place, as happenings of the hub
abbrev pub at_place : ℕ → List Own → List Happening
at_place place os = map (λ o. record { event = On place o.call; answer = o.answer }) os

-- `count` bytes of the output were taken, and they are these
abbrev pub took : ℕ → List ℕ → Own
took count bytes = record { call = Take count; answer = Gave bytes }

abbrev pub went : Answer → Own
went answer = record { call = Turn; answer = answer }

abbrev pub piece : CatalogOf → List ℕ → Answer → Own
piece catalog bytes answer = record { call = Piece catalog bytes; answer = answer }

abbrev pub end : Answer → Own
end answer = record { call = End; answer = answer }

-- what a visit came to: no connection is at the place; its socket was given output; a turn was answered so; or a piece or the end was
pub data Last : Type 0 where
  nowhere : Last
  wrote : Last
  turned : (answer : Answer) → Last
  came : (answer : Answer) → Last

-- the calls after an idle turn: one piece comes, or the end is reported, or nothing
pub data AfterIdle : Last → List Own → Type 0 where
  nothing : AfterIdle (turned (Went Idle)) []
  reads : (catalog : CatalogOf) (b : ℕ) (bytes : List ℕ) (answer : Answer)
      → AfterIdle (came answer) (piece catalog (b ∷ bytes) answer ∷ [])
  ends : (answer : Answer) → AfterIdle (came answer) (end answer ∷ [])

-- the calls where no output waits: one turn, and what comes where that was idle
pub data AfterTake : Last → List Own → Type 0 where
  goes : (answer : Answer) → AfterTake (turned answer) (went answer ∷ [])
  idles : (last : Last) (os : List Own) → AfterIdle last os → AfterTake last (went (Went Idle) ∷ os)

-- what stands at a place: no connection; one with output; or one without
abbrev pub IsFree : Option ConnOf → Type 0
IsFree conn = conn ≡ None

abbrev pub HasOutput : Option ConnOf → Type 0
HasOutput None = ⊥
HasOutput (Some c) = c.output ≢ []

abbrev pub IsDry : Option ConnOf → Type 0
IsDry None = ⊥
IsDry (Some c) = c.output ≡ []

-- so it is at a place of a hub
abbrev pub StandsAt : (Option ConnOf → Type 0) → Hub → ℕ → Type 0
StandsAt P hub place = (h : HubOf) → Models hub h → P (conn_at h place)

-- the calls of a visit: none where no connection is at the place, or where the socket takes nothing; the bytes of the output are taken that the socket
-- took; or, where there is no output, the others
pub data Visit (hub : Hub) (place : ℕ) : Last → List Own → Type 0 where
  misses : Visit hub place nowhere []
  waits : Visit hub place wrote []
  gives : (count b : ℕ) (bytes : List ℕ) → Visit hub place wrote (took count (b ∷ bytes) ∷ [])
  none : StandsAt IsDry hub place → (last : Last) (os : List Own) → AfterTake last os → Visit hub place last os

-- the bytes of the pieces among calls
abbrev pub piece_of : Call → List ℕ
piece_of (Piece catalog bytes) = bytes
piece_of End = []
piece_of Turn = []
piece_of (Take room) = []

abbrev pub pieces_of : List Own → List ℕ
pieces_of [] = []
pieces_of (o ∷ os) = piece_of o.call ++ pieces_of os

-- of the bytes that were reported as left none is
abbrev pub IsReadOut : Option (List ℕ) → Option (List ℕ) → Type 0
IsReadOut None new = ⊤
IsReadOut (Some bytes) new = new ≡ Some []

-- What moved between a connection and its socket, which stays, by the calls on the connection: the socket took the bytes that were taken of the output, in order; the
-- pieces are the bytes that were read, each once; and the end was reported only where nothing is left to be read.
pub record Moves (old new : WireOf) (os : List Own) : Type 0 where
  pub socket : new.socket ≡ old.socket
  pub taken : Appends old.taken new.taken (taken_of os)
  pub left : Consumes old.left new.left (pieces_of os)
  pub ended : input_ended os ≡ true → IsReadOut old.left new.left

-- whether the connection at the place is over
abbrev pub IsOverAt : Hub → ℕ → Bool → Type 0
IsOverAt hub place over = (h : HubOf) → Models hub h → is_over_at h place ≡ over

-- its output waits for the socket, or the connection has nothing to do and is not over
abbrev pub IsAtRest : Hub → ℕ → Last → Type 0
IsAtRest hub place last = ((last ≡ wrote) × StandsAt HasOutput hub place) ⊎ ((last ≡ turned (Went Idle)) × IsOverAt hub place false)

-- the end came to a stream that had ended; or the connection has nothing to do and is over, and nothing was asked of its socket
abbrev pub IsAnsweredAtPlace : Hub → ℕ → WireOf → WireOf → Last → Type 0
IsAnsweredAtPlace hub place old new last =
    (last ≡ came (Refused refusal.Ended)) ⊎ ((last ≡ turned (Went Idle)) × IsOverAt hub place true × (new ≡ old))

-- the socket took bytes, or the last call did something
abbrev pub DidWork : List ℕ → Last → Type 0
DidWork [] last = (last ≡ turned (Went TurnWorked)) ⊎ (last ≡ came Done)
DidWork (b ∷ sent) last = ⊤

-- a call was refused, and not since the stream had ended
abbrev pub IsFailure : Last → Type 0
IsFailure last = (fault : HubFault) × ((last ≡ turned (Refused fault)) ⊎ ((fault ≢ refusal.Ended) × (last ≡ came (Refused fault))))

-- Why a place became so: by its socket before and after, the bytes that this took, and what the visit came to.
abbrev pub Became : SlotState → Hub → ℕ → WireOf → WireOf → List ℕ → Last → Type 0
Became Free hub place old new sent last = (last ≡ nowhere) × StandsAt IsFree hub place
Became Rests hub place old new sent last = Counts old.waits new.waits × IsAtRest hub place last
Became Worked hub place old new sent last = DidWork sent last
Became Answered hub place old new sent last = IsAnsweredAtPlace hub place old new last
Became Lost hub place old new sent last = Counts old.losses new.losses × IsAtRest hub place last
Became Failed hub place old new sent last = IsFailure last

-- the calls of a visit that writes nothing are of a kind, and this is what they came to
pub record MakesCalls (Kind : Last → List Own → Type 0) (place : ℕ) (old new : Hub) (wires next : ℕ → WireOf) (state : SlotState) : Type 0 where
  pub os : List Own
  pub last : Last
  pub kind : Kind last os
  pub run : IsHubRun old (at_place place os) new
  pub output : taken_of os ≡ []
  pub socket : (next place).socket ≡ (wires place).socket
  pub taken : (next place).taken ≡ (wires place).taken
  pub left : Consumes (wires place).left (next place).left (pieces_of os)
  pub ended : input_ended os ≡ true → IsReadOut (wires place).left (next place).left
  pub became : Became state new place (wires place) (next place) [] last
  pub others : KeepsOthers place wires next

-- one visit at a place
pub record Serves (place : ℕ) (old new : Hub) (wires next : ℕ → WireOf) (state : SlotState) : Type 0 where
  pub os : List Own
  pub last : Last
  pub visit : Visit old place last os
  pub run : IsHubRun old (at_place place os) new
  pub moves : Moves (wires place) (next place) os
  pub became : Became state new place (wires place) (next place) (taken_of os) last
  pub others : KeepsOthers place wires next

-- what an answer to a piece or an end makes of its place
abbrev pub came_to : Result ⊤ HubFault → SlotState
came_to (Ok u) = Worked
came_to (Err refusal.Ended) = Answered
came_to (Err fault) = Failed
