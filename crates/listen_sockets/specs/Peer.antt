-- What becomes of a socket, and of what is known of it.
use Rattle.std.specs.Prelude.{◌≡◌, ◌==◌, ⊤, ℕ, Bool, true, false, ◌||◌, not, nat_lt, MatchBool, if◌then◌else◌, Result, Ok, Err}
use Rattle.mio.specs.Event.{is_error, is_read_closed, is_readable, is_writable}
use Rattle.mio.specs.declared.event.event.Event.{Event}
use Rattle.mio.specs.declared.net.stream.TcpStream.{TcpStream}
use Rattle.odata_rounds.specs.declared.answers.PeerFault.{PeerFault}
use Rattle.odata_rounds.specs.declared.answers.PeerFault.TheVariants.{Waits, Lost}
use Rattle.listen_sockets.specs.Slow.{fresh_times, times_after_charge, times_after_read, times_after_turn, times_after_write}
use Rattle.listen_sockets.specs.declared.peer.Peer.{Peer}
use Rattle.listen_sockets.specs.declared.slow.Times.{Times}

-- a socket of which nothing is known yet: it is read and written until the system says that it waits
abbrev pub fresh_peer : TcpStream → ℕ → Peer
fresh_peer stream now = record {
  stream = stream;
  readable = true;
  writable = true;
  awake = true;
  closing = false;
  ended = false;
  lost = false;
  has_read = false;
  written = 0;
  times = fresh_times now;
}

-- after an event: what it says is added to what the system said before, and a failure is found by a read or a write
abbrev pub after_event : Event → Peer → Peer
after_event event peer = record peer {
  readable = peer.readable || (is_readable event || is_error event);
  writable = peer.writable || (is_writable event || is_error event);
  awake = true;
  closing = peer.closing || (is_read_closed event || is_error event);
  lost = peer.lost || is_error event;
}

-- the next write is tried, whatever the system said, which is something new where it would have waited
abbrev pub before_try : Peer → Peer
before_try peer = record peer { writable = true; awake = peer.awake || not peer.writable }

-- no more is read of its stream, which counts as a turn
abbrev pub after_end : ℕ → Peer → Peer
after_end now peer = record peer { ended = true; awake = true; times = times_after_turn now peer.times }

-- the times after a visit that worked: it read, or else it wrote, or else it was a turn
abbrev pub times_after_visit : ℕ → Bool → Peer → Times
times_after_visit now waits peer =
    if peer.has_read then times_after_read peer.times now
    else (if nat_lt 0 peer.written then times_after_write now peer.written waits peer.times else times_after_turn now peer.times)

-- After a visit that worked was noted, by whether output waits, the next begins with nothing read and nothing written. Where something was done there may be more to
-- do, so the socket does not rest.
abbrev pub after_visit : ℕ → Bool → Peer → Peer
after_visit now waits peer = record peer { awake = true; has_read = false; written = 0; times = times_after_visit now waits peer }

-- `micros` microseconds were worked for it
abbrev pub after_charge : ℕ → Peer → Peer
after_charge micros peer = record peer { times = times_after_charge micros peer.times }

-- a socket, and what is known of it but for what a write finds
abbrev pub but_for_writes : Peer → Peer
but_for_writes peer = record peer { writable = false; awake = false; written = 0 }

-- a socket, and what is known of it but for what a read finds
abbrev pub but_for_reads : Peer → Peer
but_for_reads peer = record peer { readable = false; awake = false; ended = false; has_read = false }

-- a socket, and what is known of it but for what the system says
abbrev pub but_for_events : Peer → Peer
but_for_events peer = record peer { readable = false; writable = false; awake = false; closing = false; lost = false }

-- When a socket may be left alone until the system says something of it: once a call had to wait and the next one would wait too. A call that moved bytes, or found
-- the end of a stream, leaves it as it was, for the next may move more.
abbrev pub RestsBy : (Peer → Bool) → Result ℕ PeerFault → Peer → Peer → Type 0
RestsBy is_ready (Ok count) old new = new.awake ≡ old.awake
RestsBy is_ready (Err Waits) old new = new.awake ≡ is_ready new
RestsBy is_ready (Err Lost) old new = ⊤

-- The next read of a socket waits unless the last one filled its buffer, or its peer said that it sends no more: bytes may be left before the end.
abbrev pub IsReadableAfter : Result ℕ PeerFault → ℕ → Peer → Peer → Type 0
IsReadableAfter (Ok count) room old new = MatchBool old.ended (new.readable ≡ old.readable) (new.readable ≡ (count == room || old.closing))
IsReadableAfter (Err fault) room old new = ⊤
