-- What the system's sockets tell and count.
use Rattle.std.specs.Prelude.{◌≡◌, ◌≢◌, ⊤, ℕ, ℤ, ◌-◌, ◌^◌, Bool, true, false, not, List, [], ◌∷◌, map, nat_lt, Option, None, Some, MatchOption, Result, is_none, option_map, slice_get, slice_set}
use Rattle.std.specs.List.{list_any}
use Rattle.mio.specs.Event.{event_token}
use Rattle.mio.specs.Net.{stream_fd}
use Rattle.mio.specs.declared.event.event.Event.{Event}
use Rattle.listen_sockets.specs.declared.peer.Peer.{Peer}
use Rattle.listen_sockets.specs.declared.slow.Times.{Times}
use Rattle.listen_sockets.specs.declared.sockets.Wire.{Wire}
use Rattle.listen_sockets.specs.Peer.{RestsBy, after_event, but_for_events}
use Rattle.listen_sockets.specs.Slow.{is_heavy}
use Rattle.odata_rounds.specs.declared.answers.PeerFault.{PeerFault}
use Rattle.odata_rounds.specs.Peers.{WireOf}

-- a place whose socket tells no bytes, and counts
abbrev pub untold : Option ℤ → ℕ → ℕ → WireOf
untold socket waits losses = record { socket = socket; left = None; taken = None; waits = waits; losses = losses }

-- the descriptor of a socket, where there is one
abbrev pub socket_of : Option Peer → Option ℤ
socket_of None = None
socket_of (Some peer) = Some (stream_fd peer.stream)

abbrev pub untold_wire : Wire → WireOf
untold_wire wire = untold (socket_of wire.peer) wire.waits wire.losses

-- where there is no place, there is no socket, and the counts are full
abbrev pub wire_of : Option Wire → WireOf
wire_of None = untold None (2 ^ 64 - 1) (2 ^ 64 - 1)
wire_of (Some wire) = untold_wire wire

abbrev pub wire_at : List Wire → ℕ → WireOf
wire_at wires place = wire_of (slice_get wires place)

-- which socket is at a place
abbrev pub socket_at : List Wire → ℕ → Option ℤ
socket_at wires place = (wire_at wires place).socket

-- each place has the socket that it had
abbrev pub SocketsStay : List Wire → List Wire → Type 0
SocketsStay old new = (place : ℕ) → socket_at new place ≡ socket_at old place

-- and each but one
abbrev pub OthersStay : ℕ → List Wire → List Wire → Type 0
OthersStay place old new = (other : ℕ) → other ≢ place → socket_at new other ≡ socket_at old other

-- a place with no socket, at which nothing was counted
abbrev pub free_wire : Wire
free_wire = record { peer = None; waits = 0; losses = 0 }

-- whether a place has no socket
abbrev pub has_no_peer : Wire → Bool
has_no_peer wire = is_none wire.peer

-- a place becomes so, where there is such a place; all others are as they were
abbrev pub ChangesAt : ℕ → (Wire → Wire) → List Wire → List Wire → Type 0
ChangesAt place change old new = MatchOption (slice_get old place) (new ≡ old) (λ wire. new ≡ slice_set old place (change wire))

-- this socket was put at a place, where there is such a place; the others are as they were
abbrev pub IsPut : ℕ → Peer → List Wire → List Wire → Type 0
IsPut place peer = ChangesAt place (λ wire. record wire { peer = Some peer })

-- no socket is at a place any more; what was counted there is kept, and the others are as they were
abbrev pub TakesPeer : ℕ → List Wire → List Wire → Type 0
TakesPeer place = ChangesAt place (λ wire. record wire { peer = None })

-- the socket at a place, where there is one
abbrev pub wire_peer : Option Wire → Option Peer
wire_peer None = None
wire_peer (Some wire) = wire.peer

abbrev pub peer_at : List Wire → ℕ → Option Peer
peer_at wires place = wire_peer (slice_get wires place)

-- a place whose socket became so, where there is one; what was counted there is kept
abbrev pub with_peer : (Peer → Peer) → Wire → Wire
with_peer change wire = record wire { peer = option_map change wire.peer }

-- the socket at a place became so, where there is one; all others are as they were
abbrev pub ChangesPeer : ℕ → (Peer → Peer) → List Wire → List Wire → Type 0
ChangesPeer place change = ChangesAt place (with_peer change)

-- the same socket is at a place, where there is one, and the same is known of it as far as this tells; all other places are as they were
pub record KeepsAt (known : Peer → Peer) (place : ℕ) (old new : List Wire) : Type 0 where
  pub here : option_map known (peer_at new place) ≡ option_map known (peer_at old place)
  pub others : (other : ℕ) → other ≢ place → slice_get new other ≡ slice_get old other

-- The same sockets are at the same places, and what was counted there, what was noted of them and whether more is read of each is as it was: only the
-- system may have said something of them.
abbrev pub KeepsSockets : List Wire → List Wire → Type 0
KeepsSockets old new = map (with_peer but_for_events) new ≡ map (with_peer but_for_events) old

-- The system reported these events, one after another: what each says is added to what is known of the socket at the place of its number, where there is one.
abbrev pub AreMarked : List Event → List Wire → List Wire → Type 0
AreMarked [] old new = new ≡ old
AreMarked (event ∷ events) old new = (mid : List Wire) × ChangesPeer (event_token event).0 (after_event event) old mid × AreMarked events mid new

-- an event whose number is that of no place is the listener's
abbrev pub is_of_listener : ℕ → Event → Bool
is_of_listener places event = not (nat_lt (event_token event).0 places)

-- whether the system reported something of the listener
abbrev pub tells_listener : ℕ → List Event → Bool
tells_listener places events = list_any (is_of_listener places) events

-- the times of the connection at a place, where there is one
abbrev pub peer_times : Option Peer → Option Times
peer_times None = None
peer_times (Some peer) = Some peer.times

abbrev pub wire_times : Option Wire → Option Times
wire_times None = None
wire_times (Some wire) = peer_times wire.peer

abbrev pub times_at : List Wire → ℕ → Option Times
times_at wires place = wire_times (slice_get wires place)

-- whether the service worked so long for the connection at a place that others go before it
abbrev pub is_heavy_where : Option Times → Bool
is_heavy_where None = false
is_heavy_where (Some times) = is_heavy times

abbrev pub is_heavy_at : List Wire → ℕ → Bool
is_heavy_at wires place = is_heavy_where (times_at wires place)

-- whether the system said that the connection at a place is lost
abbrev pub is_lost_peer : Option Peer → Bool
is_lost_peer None = false
is_lost_peer (Some peer) = peer.lost

abbrev pub is_lost_wire : Option Wire → Bool
is_lost_wire None = false
is_lost_wire (Some wire) = is_lost_peer wire.peer

abbrev pub is_lost_at : List Wire → ℕ → Bool
is_lost_at wires place = is_lost_wire (slice_get wires place)

-- whether something was said or done at a place since its socket last had to wait
abbrev pub is_awake_peer : Option Peer → Bool
is_awake_peer None = false
is_awake_peer (Some peer) = peer.awake

abbrev pub is_awake_wire : Option Wire → Bool
is_awake_wire None = false
is_awake_wire (Some wire) = is_awake_peer wire.peer

abbrev pub is_awake_at : List Wire → ℕ → Bool
is_awake_at wires place = is_awake_wire (slice_get wires place)

-- when the socket at a place may be left alone until the system says something of it
abbrev pub RestBy : (Peer → Bool) → Result ℕ PeerFault → Option Peer → Option Peer → Type 0
RestBy is_ready answer (Some old) (Some new) = RestsBy is_ready answer old new
RestBy is_ready answer old new = ⊤

-- how many bytes the socket at a place took since that was last noted
abbrev pub peer_sent : Option Peer → ℕ
peer_sent None = 0
peer_sent (Some peer) = peer.written

abbrev pub sent_at : List Wire → ℕ → ℕ
sent_at wires place = peer_sent (peer_at wires place)

-- whether no more is read of the stream at a place: it ended, or is ended here, or there is no socket
abbrev pub is_ended_peer : Option Peer → Bool
is_ended_peer None = true
is_ended_peer (Some peer) = peer.ended

abbrev pub is_ended_wire : Option Wire → Bool
is_ended_wire None = true
is_ended_wire (Some wire) = is_ended_peer wire.peer

abbrev pub is_ended_at : List Wire → ℕ → Bool
is_ended_at wires place = is_ended_wire (slice_get wires place)

-- no stream was ended, and none that had ended goes on
abbrev pub KeepsStreams : List Wire → List Wire → Type 0
KeepsStreams old new = (place : ℕ) → is_ended_at new place ≡ is_ended_at old place

-- no more is read of the stream at a place; those at all others stand as they stood
pub record EndsStream (place : ℕ) (old new : List Wire) : Type 0 where
  pub ended : is_ended_at new place ≡ true
  pub others : (other : ℕ) → other ≢ place → is_ended_at new other ≡ is_ended_at old other
