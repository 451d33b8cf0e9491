-- What follows for the connection at a place from what its visits do.
use Rattle.std.specs.Prelude.{◌≡◌, ⊤, ℕ, true, List, [], ◌∷◌, ◌++◌}
use Rattle.std.specs.Io.KnownBytes.{Appends, Consumes}
use Rattle.odata_hub.specs.declared.hub.Hub.{Hub}
use Rattle.odata_hub.specs.Connections.{Answer, Call, Done, End, Own, Piece, Take, Turn, input_ended, stream_of}
use Rattle.odata_hub.specs.Laws.{IsFrontOf}
use Rattle.odata_hub.specs.Replies.{AreFirstHubReplies, AreHubReplies}
use Rattle.odata_hub.specs.Schedules.{Event, Happening, HubOf, HubRun, On, opened, own_of}
use Rattle.odata_hub.specs.Streams.{bytes_of}
use Rattle.odata_rounds.specs.Peers.{WireOf}
use Rattle.odata_rounds.specs.Visits.{IsHubRun, IsReadOut, Moves, pieces_of}
use Rattle.odata_rounds.specs.Sights.{ServesAt, SightOf}

-- what moved between the connection at a place and its socket, by its own events among these
abbrev pub MovesAt : ℕ → SightOf → SightOf → List Happening → Type 0
MovesAt place old new events = Moves (old.wires place) (new.wires place) (own_of place events)

abbrev pub IsCall : Event → Type 0
IsCall (On place call) = ⊤
IsCall event = ⊥

-- each event is a call on a connection
abbrev pub AreCalls : List Happening → Type 0
AreCalls [] = ⊤
AreCalls (h ∷ hs) = IsCall h.event × AreCalls hs

-- the calls are a run of the hub, and at each place what moved is by its own of them
pub record Moved (old new : SightOf) : Type 0 where
  pub events : List Happening
  pub calls : AreCalls events
  pub run : IsHubRun old.hub events new.hub
  pub moves : (place : ℕ) → MovesAt place old new events

-- a visit moves so
abbrev pub VisitMoves : Type 0
VisitMoves = (place : ℕ) (old new : SightOf) → ServesAt place old new → Moved old new

-- what moved in turn moved together
abbrev pub MovesJoin : Type 0
MovesJoin = (a b c : WireOf) (os ps : List Own) → Moves a b os → Moves b c ps → Moves a c (os ++ ps)

-- one run of a hub after another is a run
abbrev pub RunsJoin : Type 0
RunsJoin = (a b c : Hub) (xs ys : List Happening) → IsHubRun a xs b → IsHubRun b ys c → IsHubRun a (xs ++ ys) c

-- no piece was refused
abbrev pub WasTaken : Call → Answer → Type 0
WasTaken (Piece catalog bytes) answer = answer ≡ Done
WasTaken End answer = ⊤
WasTaken Turn answer = ⊤
WasTaken (Take room) answer = ⊤

abbrev pub AllWereTaken : List Own → Type 0
AllWereTaken [] = ⊤
AllWereTaken (o ∷ os) = WasTaken o.call o.answer × AllWereTaken os

-- One socket is at the place all the while. What it took is a front of the replies of the stream, each head answered from its own tables; and the stream is what was read from the socket,
-- where no piece of it was refused; and it ended only where nothing is left to be read there.
pub record IsServedWire (os : List Own) (old new : WireOf) : Type 0 where
  pub socket : new.socket ≡ old.socket
  pub sent : List ℕ
  pub taken : Appends old.taken new.taken sent
  pub some : List ℕ
  pub first : AreFirstHubReplies (stream_of os) (input_ended os) some
  pub front : IsFrontOf sent some
  pub whole : (all : List ℕ) → AreHubReplies (stream_of os) (input_ended os) all → IsFrontOf sent all
  pub left : Consumes old.left new.left (pieces_of os)
  pub stream : AllWereTaken os → bytes_of (stream_of os) ≡ pieces_of os
  pub ended : input_ended os ≡ true → IsReadOut old.left new.left

-- Whatever happened since a connection was opened: its socket was served so by its own events.
abbrev pub ServesSocket : Type 0
ServesSocket = (start end : HubOf) (place : ℕ) (events : List Happening) (old new : WireOf)
    → HubRun start (opened place ∷ events) end → Moves old new (own_of place events) → IsServedWire (own_of place events) old new
