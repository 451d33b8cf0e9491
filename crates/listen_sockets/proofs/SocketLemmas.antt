-- Reads and writes of sockets that tell no bytes.
use Rattle.std.proofs.Common.{◌≡◌, ℕ, List, Result, Ok, Err, refl, sym, ap, subst, ◌∙◌}
use Rattle.std.specs.Prelude.{ℤ, Option}
use Rattle.std.specs.Io.{ReadsAtMost, WritesAtMost}
use Rattle.odata_http.specs.Device.{TakesSome}
use Rattle.odata_rounds.specs.declared.answers.PeerFault.{PeerFault}
use Rattle.odata_rounds.specs.Peers.{CountsFault, IsRead, IsWrite, WireOf}
use Rattle.listen_sockets.specs.declared.sockets.Wire.{Wire}
use Rattle.listen_sockets.specs.Sockets.{socket_of, untold, untold_wire}

untold_read : (s t : Option ℤ) (a b c d : ℕ) (buf : List ℕ) (r : Result ℕ PeerFault) → ReadsAtMost r buf → t ≡ s
    → CountsFault (untold s a b) (untold t c d) r → IsRead (untold s a b) (untold t c d) buf r
untold_read s t a b c d buf (Ok n) bound same counts =
    record { bound = bound; left = (tt, λ e lt. tt); socket = same; taken = refl; counts = counts }
untold_read s t a b c d buf (Err fault) bound same counts =
    record { bound = bound; left = tt; socket = same; taken = refl; counts = counts }

-- the socket stays where what is counted of a place changes
counted : (old mid new : Wire) → untold_wire mid ≡ untold_wire old → new.peer ≡ mid.peer → socket_of new.peer ≡ socket_of old.peer
counted old mid new same peer = ap socket_of peer ∙ ap (λ (w : WireOf). w.socket) same

pub socket_read : (old mid new : Wire) (buf : List ℕ) (r : Result ℕ PeerFault) → ReadsAtMost r buf → untold_wire mid ≡ untold_wire old
    → CountsFault (untold_wire mid) (untold_wire new) r → new.peer ≡ mid.peer → IsRead (untold_wire old) (untold_wire new) buf r
socket_read old mid new buf r bound same counts peer =
    let P : WireOf → Type 0 = λ w. CountsFault w (untold_wire new) r in
    untold_read (socket_of old.peer) (socket_of new.peer) old.waits old.losses new.waits new.losses buf r bound (counted old mid new same peer)
    (subst P same counts)

untold_write : (s t : Option ℤ) (a b c d : ℕ) (bytes : List ℕ) (r : Result ℕ PeerFault) → WritesAtMost r bytes → TakesSome bytes r → t ≡ s
    → CountsFault (untold s a b) (untold t c d) r → IsWrite (untold s a b) (untold t c d) bytes r
untold_write s t a b c d bytes (Ok n) bound some same counts =
    record { bound = bound; some = some; taken = tt; socket = same; left = refl; counts = counts }
untold_write s t a b c d bytes (Err fault) bound some same counts =
    record { bound = bound; some = some; taken = tt; socket = same; left = refl; counts = counts }

pub socket_write : (old mid new : Wire) (bytes : List ℕ) (r : Result ℕ PeerFault) → WritesAtMost r bytes → TakesSome bytes r
    → untold_wire mid ≡ untold_wire old → CountsFault (untold_wire mid) (untold_wire new) r → new.peer ≡ mid.peer
    → IsWrite (untold_wire old) (untold_wire new) bytes r
socket_write old mid new bytes r bound some same counts peer =
    let P : WireOf → Type 0 = λ w. CountsFault w (untold_wire new) r in
    untold_write (socket_of old.peer) (socket_of new.peer) old.waits old.losses new.waits new.losses bytes r bound some (counted old mid new same peer)
    (subst P same counts)
