-- What the sockets of the places tell and count.
use Rattle.std.specs.Prelude.{◌≡◌, ◌≢◌, ℕ, ℤ, List, Option, Result, Ok, Err}
use Rattle.std.specs.Io.{ReadsAtMost, WritesAtMost}
use Rattle.std.specs.Io.KnownBytes.{ReadConsumes, WriteAppends}
use Rattle.odata_http.specs.Device.{Counts, TakesSome}
use Rattle.odata_rounds.specs.declared.answers.PeerFault.{PeerFault}
use Rattle.odata_rounds.specs.declared.answers.PeerFault.TheVariants.{Waits, Lost}

-- a place: the descriptor of the socket there, where there is one; the bytes that are left to be read and those that it took, where it tells them; how
-- often it had or took nothing for now, and how often it was found lost
pub record WireOf : Type 0 where
  pub socket : Option ℤ
  pub left : Option (List ℕ)
  pub taken : Option (List ℕ)
  pub waits : ℕ
  pub losses : ℕ

-- each fault is counted, and nothing else
abbrev pub CountsFault : WireOf → WireOf → Result ℕ PeerFault → Type 0
CountsFault old new (Ok n) = (new.waits ≡ old.waits) × (new.losses ≡ old.losses)
CountsFault old new (Err Waits) = Counts old.waits new.waits × (new.losses ≡ old.losses)
CountsFault old new (Err Lost) = (new.waits ≡ old.waits) × Counts old.losses new.losses

-- the socket, which stays, took a front of these bytes
pub record IsWrite (old new : WireOf) (bytes : List ℕ) (r : Result ℕ PeerFault) : Type 0 where
  pub bound : WritesAtMost r bytes
  pub some : TakesSome bytes r
  pub taken : WriteAppends old.taken new.taken r bytes
  pub socket : new.socket ≡ old.socket
  pub left : new.left ≡ old.left
  pub counts : CountsFault old new r

-- its next bytes are the front of the buffer, and it stays
pub record IsRead (old new : WireOf) (buf : List ℕ) (r : Result ℕ PeerFault) : Type 0 where
  pub bound : ReadsAtMost r buf
  pub left : ReadConsumes old.left new.left r buf
  pub socket : new.socket ≡ old.socket
  pub taken : new.taken ≡ old.taken
  pub counts : CountsFault old new r

-- the sockets at other places are as they were
abbrev pub KeepsOthers : ℕ → (ℕ → WireOf) → (ℕ → WireOf) → Type 0
KeepsOthers place old new = (other : ℕ) → other ≢ place → new other ≡ old other
