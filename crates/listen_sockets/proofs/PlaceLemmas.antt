-- What a change of one place does to all of them.
use Rattle.std.proofs.Common.{◌≡◌, ◌≤◌, ℕ, zero, suc, List, [], ◌∷◌, length, map, Option, None, Some, refl, sym, ap, subst, ◌∙◌, arith}
use Rattle.std.specs.Prelude.{MatchOption, option_map, slice_get, slice_set}
use Rattle.std.proofs.lemmas.Option.{slice_get-map}
use Rattle.listen_sockets.specs.declared.peer.Peer.{Peer}
use Rattle.listen_sockets.specs.declared.sockets.Wire.{Wire}
use Rattle.listen_sockets.specs.Peer.{but_for_events}
use Rattle.listen_sockets.specs.Sockets.{ChangesAt, ChangesPeer, KeepsSockets, KeepsStreams, SocketsStay, is_ended_at, is_ended_wire, socket_at, wire_of, with_peer}

-- ---- one place

-- the places where one was changed
changed_at : (Wire → Wire) → ℕ → List Wire → List Wire
changed_at f n [] = []
changed_at f zero (wire ∷ wires) = f wire ∷ wires
changed_at f (suc n) (wire ∷ wires) = wire ∷ changed_at f n wires

-- the same, by what stands there
changed_by : (Wire → Wire) → ℕ → List Wire → Option Wire → List Wire
changed_by f n wires None = wires
changed_by f n wires (Some wire) = slice_set wires n (f wire)

changed_where : (f : Wire → Wire) (n : ℕ) (old new : List Wire) (o : Option Wire)
    → MatchOption o (new ≡ old) (λ wire. new ≡ slice_set old n (f wire)) → new ≡ changed_by f n old o
unfolding changed_by
changed_where f n old new None c = c
changed_where f n old new (Some wire) c = c

changed_later : (f : Wire → Wire) (n : ℕ) (wire : Wire) (wires : List Wire) (o : Option Wire)
    → changed_by f (suc n) (wire ∷ wires) o ≡ wire ∷ changed_by f n wires o
unfolding changed_by
changed_later f n wire wires None = refl
changed_later f n wire wires (Some there) = refl

changed_there : (f : Wire → Wire) (n : ℕ) (wires : List Wire) → changed_by f n wires (slice_get wires n) ≡ changed_at f n wires
unfolding changed_at changed_by
changed_there f n [] = refl
changed_there f zero (wire ∷ wires) = refl
changed_there f (suc n) (wire ∷ wires) = changed_later f n wire wires (slice_get wires n) ∙ ap (λ l. wire ∷ l) (changed_there f n wires)

is_changed : (f : Wire → Wire) (n : ℕ) (old new : List Wire) → ChangesAt n f old new → new ≡ changed_at f n old
is_changed f n old new c = changed_where f n old new (slice_get old n) c ∙ changed_there f n old

-- ---- what the system says of a socket

-- of places that cannot be told apart by g, one that changed cannot be told apart either
same_by : (g f : Wire → Wire) → ((wire : Wire) → g (f wire) ≡ g wire) → (n : ℕ) (wires : List Wire) → map g (changed_at f n wires) ≡ map g wires
unfolding changed_at
same_by g f same n [] = refl
same_by g f same zero (wire ∷ wires) = ap (λ w. w ∷ map g wires) (same wire)
same_by g f same (suc n) (wire ∷ wires) = ap (λ l. g wire ∷ l) (same_by g f same n wires)

peer_said : (change : Peer → Peer) → ((peer : Peer) → but_for_events (change peer) ≡ but_for_events peer) → (waits losses : ℕ) (peer : Option Peer)
    → with_peer but_for_events (with_peer change (record { peer = peer; waits = waits; losses = losses }))
    ≡ with_peer but_for_events (record { peer = peer; waits = waits; losses = losses })
peer_said change same waits losses None = refl
peer_said change same waits losses (Some peer) =
    let with_counts : Peer → Wire = λ p. record { peer = Some p; waits = waits; losses = losses } in ap with_counts (same peer)

-- each socket stays where the system says something of one
pub keeps_sockets : (place : ℕ) (change : Peer → Peer) (old new : List Wire) → ((peer : Peer) → but_for_events (change peer) ≡ but_for_events peer)
    → ChangesPeer place change old new → KeepsSockets old new
keeps_sockets place change old new same c =
    ap (map (with_peer but_for_events)) (is_changed (with_peer change) place old new c)
    ∙ same_by (with_peer but_for_events) (with_peer change) (λ wire. peer_said change same wire.waits wire.losses wire.peer) place old

ended_said : (o : Option Wire) → is_ended_wire (option_map (with_peer but_for_events) o) ≡ is_ended_wire o
ended_said None = refl
ended_said (Some wire) = ended_by wire.waits wire.losses wire.peer
  where
    ended_by : (waits losses : ℕ) (peer : Option Peer)
        → is_ended_wire (Some (with_peer but_for_events (record { peer = peer; waits = waits; losses = losses })))
        ≡ is_ended_wire (Some (record { peer = peer; waits = waits; losses = losses }))
    ended_by waits losses None = refl
    ended_by waits losses (Some peer) = refl

-- where each socket stays, no stream ended
pub keeps_streams : (old new : List Wire) → KeepsSockets old new → KeepsStreams old new
keeps_streams old new k place =
    let said : (wires : List Wire) → is_ended_at (map (with_peer but_for_events) wires) place ≡ is_ended_at wires place =
    λ wires. ap is_ended_wire (slice_get-map (with_peer but_for_events) wires place) ∙ ended_said (slice_get wires place) in
    sym (said new) ∙ ap (λ wires. is_ended_at wires place) k ∙ said old

socket_said : (o : Option Wire) → (wire_of (option_map (with_peer but_for_events) o)).socket ≡ (wire_of o).socket
socket_said None = refl
socket_said (Some wire) = socket_by wire.waits wire.losses wire.peer
  where
    socket_by : (waits losses : ℕ) (peer : Option Peer)
        → (wire_of (Some (with_peer but_for_events (record { peer = peer; waits = waits; losses = losses })))).socket
        ≡ (wire_of (Some (record { peer = peer; waits = waits; losses = losses }))).socket
    socket_by waits losses None = refl
    socket_by waits losses (Some peer) = refl

-- and each place has the socket that it had
pub sockets_stay : (old new : List Wire) → KeepsSockets old new → SocketsStay old new
sockets_stay old new k place =
    let said : (wires : List Wire) → socket_at (map (with_peer but_for_events) wires) place ≡ socket_at wires place =
    λ wires. ap (λ o. (wire_of o).socket) (slice_get-map (with_peer but_for_events) wires place) ∙ socket_said (slice_get wires place) in
    sym (said new) ∙ ap (λ wires. socket_at wires place) k ∙ said old

-- ---- all places in order

-- the first wires, of the given count, are changed
abbrev pub first_changed : (Wire → Wire) → ℕ → List Wire → List Wire
first_changed f zero wires = wires
first_changed f (suc n) [] = []
first_changed f (suc n) (wire ∷ wires) = f wire ∷ first_changed f n wires

next_changed : (f : Wire → Wire) (n : ℕ) (wires : List Wire) → changed_at f n (first_changed f n wires) ≡ first_changed f (suc n) wires
unfolding changed_at
next_changed f zero [] = refl
next_changed f zero (wire ∷ wires) = refl
next_changed f (suc n) [] = refl
next_changed f (suc n) (wire ∷ wires) = ap (λ l. f wire ∷ l) (next_changed f n wires)

-- one more is changed
pub one_more : (f : Wire → Wire) (n next : ℕ) (wires old new : List Wire) → next ≡ suc n → old ≡ first_changed f n wires → ChangesAt n f old new
    → new ≡ first_changed f next wires
one_more f n next wires old new is e c =
    let P : ℕ → Type 0 = λ x. new ≡ first_changed f x wires in
    subst P (sym is) (is_changed f n old new c ∙ ap (changed_at f n) e ∙ next_changed f n wires)

-- all are
pub all_changed : (f : Wire → Wire) (n : ℕ) (wires : List Wire) → length wires ≤ n → first_changed f n wires ≡ map f wires
all_changed f zero [] h = refl
all_changed f zero (wire ∷ wires) h = absurd (omega (arith, h))
all_changed f (suc n) [] h = refl
all_changed f (suc n) (wire ∷ wires) h = ap (λ l. f wire ∷ l) (all_changed f n wires (omega (arith, h)))
