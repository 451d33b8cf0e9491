-- What the service does with its places and sockets.
use Rattle.std.specs.Prelude.{◌≡◌, ◌⊎◌, ℕ, List, Result, Ok, Err, slice_set}
use Rattle.table_store.specs.Catalog.{CatalogOf}
use Rattle.odata_hub.specs.declared.hub.Hub.{Hub}
use Rattle.mio.specs.declared.net.stream.TcpStream.{TcpStream}
use Rattle.odata_hub.specs.declared.answers.HubFault.{HubFault}
use Rattle.odata_hub.specs.Connections.{Answer, Done, Opened, Refused}
use Rattle.odata_hub.specs.Schedules.{Drop, HubOf, Open, Reload, conn_at}
use Rattle.odata_hub.specs.Stands.{IsHubStep, Models}
use Rattle.odata_rounds.specs.declared.answers.SlotState.{SlotState}
use Rattle.odata_rounds.specs.declared.answers.SlotState.TheVariants.{Free, Rests, Worked, Answered, Lost, Failed}
use Rattle.odata_rounds.specs.Lives.{AreSettled, Deed, Lives, free_slot}
use Rattle.odata_listen.specs.declared.endings.Moment.{Moment}
use Rattle.listen_sockets.specs.declared.peer.Peer.{Peer}
use Rattle.listen_sockets.specs.declared.server.Server.{Server}
use Rattle.listen_sockets.specs.declared.slow.Due.{Due}
use Rattle.listen_sockets.specs.declared.slow.Due.TheVariants as due
use Rattle.listen_sockets.specs.declared.slow.TimeLimits.{TimeLimits}
use Rattle.listen_sockets.specs.declared.sockets.Wire.{Wire}
use Rattle.listen_sockets.specs.Peer.{after_end, fresh_peer}
use Rattle.listen_sockets.specs.Server.{EndsHopeless, EndsIfHopeless, IsDueAt, NotesWork, has_waiting}
use Rattle.listen_sockets.specs.Sights.{sight_of}
use Rattle.listen_sockets.specs.Sockets.{ChangesPeer, EndsStream, IsPut, OthersStay, SocketsStay, TakesPeer, sent_at}
use Rattle.service_log.specs.declared.work.Work.{Work}
use Rattle.service_log.specs.Work.{work_after_send}

-- a life leads from the server as it was to the server as it is: what holds of each connection in every life holds there
pub record RunsTo (old new : Server) : Type 0 where
  pub deeds : List Deed
  pub life : Lives (sight_of old) deeds (sight_of new)

-- the same where each place was given back whose connection is over, lost or failed; and that is so again
pub record RunsOn (old new : Server) : Type 0 where
  pub runs : AreSettled old.slots.items → RunsTo old new
  pub settled : AreSettled old.slots.items → AreSettled new.slots.items

-- the hub, and what is kept of each place, are as they were, and each place has the socket that it had
pub record IsKept (old new : Server) : Type 0 where
  pub hub : new.hub ≡ old.hub
  pub slots : new.slots.items ≡ old.slots.items
  pub stay : SocketsStay old.sockets.wires.items new.sockets.wires.items

-- the hub, what is kept of each place, and the sockets are as they were
pub record Stays (old new : Server) : Type 0 where
  pub hub : new.hub ≡ old.hub
  pub slots : new.slots.items ≡ old.slots.items
  pub sockets : new.sockets.wires.items ≡ old.sockets.wires.items

-- the same, but that the stream at a place is ended; all other sockets are as they were
pub record Ends (now place : ℕ) (old new : Server) : Type 0 where
  pub kept : IsKept old new
  pub sockets : ChangesPeer place (after_end now) old.sockets.wires.items new.sockets.wires.items

-- a visit that worked is noted of the socket at a place, and then its stream is ended where its rest can begin no head any more; all other sockets are as
-- they were
pub record NotesVisit (now place : ℕ) (hub : Hub) (old new : List Wire) : Type 0 where
  pub mid : List Wire
  pub visit : NotesWork now place hub old mid
  pub ends : EndsIfHopeless now place hub mid new

-- the same, but that a visit is noted, and that the stream at a place is ended where its rest can begin no head any more, and there alone
pub record Notes (now place : ℕ) (old new : Server) : Type 0 where
  pub kept : IsKept old new
  pub sockets : NotesVisit now place old.hub old.sockets.wires.items new.sockets.wires.items
  pub streams : EndsHopeless place old.hub old.sockets.wires.items new.sockets.wires.items

-- a place was given back, by one call, and is kept as one of which nothing became; what is kept of the others, and their sockets, are as they were
pub record Frees (place : ℕ) (old new : Server) : Type 0 where
  pub answer : Answer
  pub step : IsHubStep old.hub (Drop place) answer new.hub
  pub slots : new.slots.items ≡ slice_set old.slots.items place free_slot
  pub sockets : TakesPeer place old.sockets.wires.items new.sockets.wires.items
  pub streams : EndsStream place old.sockets.wires.items new.sockets.wires.items
  pub others : OthersStay place old.sockets.wires.items new.sockets.wires.items

-- A place is given back where its connection is over, lost or failed, and there alone. Where something was done its stream is ended if its rest can
-- begin no head any more, and no stream else.
abbrev pub Settles : ℕ → SlotState → ℕ → Server → Server → Type 0
Settles now Free place old new = Stays old new
Settles now Rests place old new = Stays old new
Settles now Worked place old new = Notes now place old new
Settles now Answered place old new = Frees place old new
Settles now Lost place old new = Frees place old new
Settles now Failed place old new = Frees place old new

-- what a visit sent is counted, and its request where no more of the reply waits
abbrev pub CountsSent : ℕ → Server → Work → Work → Type 0
CountsSent place server old new = (h : HubOf) → Models server.hub h
    → new ≡ work_after_send (sent_at server.sockets.wires.items place) (has_waiting (conn_at h place)) old

-- so it is where something was done, and else nothing is counted
abbrev pub CountsWork : SlotState → ℕ → Server → Work → Work → Type 0
CountsWork Free place server old new = new ≡ old
CountsWork Rests place server old new = new ≡ old
CountsWork Worked place server old new = CountsSent place server old new
CountsWork Answered place server old new = new ≡ old
CountsWork Lost place server old new = new ≡ old
CountsWork Failed place server old new = new ≡ old

-- a stream is ended where that is due, and a place is given back where its connection is to be dropped, since its peer is slow or its query takes too long;
-- both there alone
abbrev pub EndsSlow : ℕ → Due → ℕ → Server → Server → Type 0
EndsSlow now due.Nothing place old new = Stays old new
EndsSlow now due.End place old new = Ends now place old new
EndsSlow now due.Drop place old new = Frees place old new
EndsSlow now due.TooLong place old new = Frees place old new

-- what is due at a place is done there
pub record DoesDue (limits : TimeLimits) (moment : Moment) (place : ℕ) (old new : Server) : Type 0 where
  pub due : Due
  pub is : IsDueAt limits moment.crowded moment.second place old.hub old.sockets.wires.items due
  pub ends : EndsSlow moment.second due place old new

-- the hub has other tables from now on, or all is as it was
abbrev pub MayReload : Hub → Hub → Type 0
MayReload old new = (new ≡ old) ⊎ ((catalog : CatalogOf) × IsHubStep old (Reload catalog) Done new)

-- A connection was opened at a place for a socket, which was put there; or the hub opened none, and said why; or the place was given back at once, as the
-- system does not report the socket.
pub data TakesPeerIn (peer : Peer) (old new : Server) : Type 0 where
  opens : (place : ℕ) → IsHubStep old.hub Open (Opened place) new.hub → IsPut place peer old.sockets.wires.items new.sockets.wires.items
      → TakesPeerIn peer old new
  refuses : (fault : HubFault) → IsHubStep old.hub Open (Refused fault) new.hub → TakesPeerIn peer old new
  gives_back : (place : ℕ) (mid : Hub) (answer : Answer) → IsHubStep old.hub Open (Opened place) mid → IsHubStep mid (Drop place) answer new.hub
      → TakesPeerIn peer old new

-- a connection that was accepted is taken in; where none was, nothing is done
abbrev pub TakesAccepted : {E : Type 0} → ℕ → Result TcpStream E → Server → Server → Type 0
TakesAccepted now (Ok stream) old new = TakesPeerIn (fresh_peer stream now) old new
TakesAccepted now (Err error) old new = Stays old new
