-- Sockets whose connections are over here, and which are held open for a while, since their peers may still send (RFC 9112, section 9.6).
use Rattle.std.specs.Prelude.{◌≡◌, ◌≢◌, ℕ, ◌<◌, ◌≤◌, ◌-◌, ◌⊎◌, true, List, length, nat_lt, if◌then◌else◌, Option, Some, None, is_none, slice_index_or, slice_set}
use Rattle.std.specs.List.{list_any}
use Rattle.listen_sockets.specs.declared.lingering.LingeringPeer.{LingeringPeer}
use Rattle.listen_sockets.specs.declared.peer.Peer.{Peer}

-- how many seconds a socket is held open at most
abbrev pub most_seconds : ℕ
most_seconds = 30

-- a socket that is held from now on
abbrev pub held_from_now : Peer → LingeringPeer
held_from_now peer = record { peer = peer; seconds = most_seconds }

-- what is held at a place: nothing where there is no such place
abbrev pub held_at : List (Option LingeringPeer) → ℕ → Option LingeringPeer
held_at held at = slice_index_or held at None

-- each that is held is so for some time yet, and for no more than the most
abbrev pub AreInTime : List (Option LingeringPeer) → Type 0
AreInTime held = (at : ℕ) (peer : LingeringPeer) → held_at held at ≡ Some peer → (0 < peer.seconds) × (peer.seconds ≤ most_seconds)

-- ---- `seconds` seconds later
-- that many fewer are left of its time, and if that is over it is let go
abbrev pub shorter : ℕ → LingeringPeer → Option LingeringPeer
shorter seconds held = if nat_lt seconds held.seconds then Some (record held { seconds = held.seconds - seconds }) else None

abbrev pub after_seconds : ℕ → Option LingeringPeer → Option LingeringPeer
after_seconds seconds None = None
after_seconds seconds (Some held) = shorter seconds held

-- what was held is let go, as its peer may have closed too, or is held that much shorter
abbrev pub LetsGoOrShortens : ℕ → Option LingeringPeer → Option LingeringPeer → Type 0
LetsGoOrShortens seconds old new = (new ≡ None) ⊎ (new ≡ after_seconds seconds old)

-- so it is at a place, and at all others what was held is held as it was
pub record TendsAt (at seconds : ℕ) (old new : List (Option LingeringPeer)) : Type 0 where
  pub count : length new ≡ length old
  pub here : LetsGoOrShortens seconds (held_at old at) (held_at new at)
  pub others : (other : ℕ) → other ≢ at → held_at new other ≡ held_at old other

-- ---- one more
-- where a place is free all are held as they were; where none is, each is held as it was or let go, as its peer may have closed too
pub record MakesRoom (old new : List (Option LingeringPeer)) : Type 0 where
  pub count : length new ≡ length old
  pub free : list_any is_none old ≡ true → new ≡ old
  pub each : (at : ℕ) → (held_at new at ≡ None) ⊎ (held_at new at ≡ held_at old at)

-- how many seconds are left of the time of what is held at a place
abbrev pub seconds_left : Option LingeringPeer → ℕ
seconds_left None = 0
seconds_left (Some held) = held.seconds

-- one more has its place where none is held, or, where there is no such place, where the one is whose time is over first
pub record IsNextPlace (held : List (Option LingeringPeer)) (at : ℕ) : Type 0 where
  pub within : at < length held
  pub free : list_any is_none held ≡ true → held_at held at ≡ None
  pub first : (other : ℕ) → other < length held → seconds_left (held_at held at) ≤ seconds_left (held_at held other)

-- one more is held, for the whole time, where there are places at all; what was held at its place is let go, and all others are held as they were left
pub record HoldsOneMore (peer : Peer) (old new : List (Option LingeringPeer)) : Type 0 where
  pub left : List (Option LingeringPeer)
  pub room : MakesRoom old left
  pub at : ℕ
  pub place : 0 < length left → IsNextPlace left at
  pub held : new ≡ slice_set left at (Some (held_from_now peer))

-- all are held as they were, or a socket is held besides, where there was one
abbrev pub MayHold : Option Peer → List (Option LingeringPeer) → List (Option LingeringPeer) → Type 0
MayHold None old new = new ≡ old
MayHold (Some peer) old new = (new ≡ old) ⊎ HoldsOneMore peer old new
