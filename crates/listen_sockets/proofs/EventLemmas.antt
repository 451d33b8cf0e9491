-- What the events of one look make of the places.
use Rattle.std.proofs.Common.{◌≡◌, ℕ, Bool, true, false, ◌||◌, List, [], ◌∷◌, length, refl, sym, ap, subst, ◌∙◌, arith}
use Rattle.std.specs.Prelude.{not, nat_lt}
use Rattle.std.proofs.lemmas.Bool.{false≢true}
use Rattle.std.proofs.lemmas.List.{length-map}
use Rattle.mio.specs.Event.{event_token}
use Rattle.mio.specs.declared.event.event.Event.{Event}
use Rattle.listen_sockets.specs.declared.sockets.Wire.{Wire}
use Rattle.listen_sockets.specs.Peer.{after_event, but_for_events}
use Rattle.listen_sockets.specs.Sockets.{AreMarked, ChangesPeer, KeepsSockets, is_of_listener, tells_listener, with_peer}

-- ---- the sockets

-- what the events that are left make of the sockets, all make of them
abbrev pub Leads : (left all : List Event) (old now : List Wire) → Type 0
Leads left all old now = (new : List Wire) → AreMarked left now new → AreMarked all old new

pub leads_first : (left all : List Event) (old : List Wire) → left ≡ all → Leads left all old old
leads_first left all old same new m = subst (λ events. AreMarked events old new) same m

pub leads_next : (event : Event) (left rest all : List Event) (old now next : List Wire) → left ≡ event ∷ rest
    → ChangesPeer (event_token event).0 (after_event event) now next → Leads left all old now → Leads rest all old next
leads_next event left rest all old now next is c leads new m = leads new (subst (λ events. AreMarked events now new) (sym is) (next, c, m))

pub leads_last : (left all : List Event) (old now : List Wire) → length left ≡ 0 → Leads left all old now → AreMarked all old now
leads_last [] all old now none leads = leads now refl
leads_last (event ∷ rest) all old now none leads = absurd (omega (arith, none))

-- there are as many places as before
pub same_count : (old new : List Wire) → KeepsSockets old new → length new ≡ length old
same_count old new k =
    sym (length-map new (with_peer but_for_events)) ∙ ap length k ∙ length-map old (with_peer but_for_events)

-- ---- the listener

-- whether one of the events so far, or of those that are left, is the listener's, and whether one of all is
abbrev pub Tells : (places : ℕ) (left all : List Event) (so_far : Bool) → Type 0
Tells places left all so_far = (so_far || tells_listener places left) ≡ tells_listener places all

told_by : (so_far here more all : Bool) → here ≡ true → (so_far || (here || more)) ≡ all → true ≡ all
told_by true here more all h e = e
told_by false true more all h e = e
told_by false false more all h e = absurd (false≢true h)

untold_by : (so_far here more all : Bool) → here ≡ false → (so_far || (here || more)) ≡ all → (so_far || more) ≡ all
untold_by so_far false more all h e = e
untold_by so_far true more all h e = absurd (false≢true (sym h))

-- an event of no place, and one of a place
pub tells_next : (places count : ℕ) (event : Event) (left rest all : List Event) (so_far of_place : Bool) → left ≡ event ∷ rest → count ≡ places
    → of_place ≡ nat_lt (event_token event).0 count → of_place ≡ false → Tells places left all so_far → Tells places rest all true
tells_next places count event left rest all so_far of_place is same told none t =
    let here : is_of_listener places event ≡ true =
    ap (λ n. not (nat_lt (event_token event).0 n)) (sym same) ∙ ap not (sym told ∙ none) in
    told_by so_far (is_of_listener places event) (tells_listener places rest) (tells_listener places all) here
    (subst (λ events. Tells places events all so_far) is t)

pub tells_still : (places count : ℕ) (event : Event) (left rest all : List Event) (so_far of_place : Bool) → left ≡ event ∷ rest → count ≡ places
    → of_place ≡ nat_lt (event_token event).0 count → of_place ≡ true → Tells places left all so_far → Tells places rest all so_far
tells_still places count event left rest all so_far of_place is same told some t =
    let here : is_of_listener places event ≡ false =
    ap (λ n. not (nat_lt (event_token event).0 n)) (sym same) ∙ ap not (sym told ∙ some) in
    untold_by so_far (is_of_listener places event) (tells_listener places rest) (tells_listener places all) here
    (subst (λ events. Tells places events all so_far) is t)

pub tells_last : (places : ℕ) (left all : List Event) (so_far : Bool) → length left ≡ 0 → Tells places left all so_far → so_far ≡ tells_listener places all
tells_last places [] all true none t = t
tells_last places [] all false none t = t
tells_last places (event ∷ rest) all so_far none t = absurd (omega (arith, none))
