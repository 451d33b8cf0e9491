-- What a visit makes of places that a vector has, and which streams are ended there.
use Rattle.std.proofs.Common.{◌≡◌, ◌<◌, ◌≤◌, ℕ, List, [], ◌∷◌, ◌++◌, length, take, drop, Option, Some, None, Ok, Err, refl, sym, ap, subst, ◌∙◌, inl, inr, arith, append-nil, length-append}
use Rattle.std.specs.Prelude.{Bool, true, false, not, ◌==◌, MatchOption}
use Rattle.std.proofs.lemmas.Bool.Decides.{nat_tests}
use Rattle.std.proofs.lemmas.Bool.{false≢true}
use Rattle.std.proofs.lemmas.List.{take_all, drop_all}
use Rattle.std.proofs.lemmas.Option.{slice_get_past}
use Rattle.std.specs.Borrow.{Bor}
use Rattle.odata_http.specs.Waiting.{IsFront}
use Rattle.odata_hub.specs.declared.answers.HubFault.{HubFault}
use Rattle.odata_hub.specs.declared.hub.Hub.{Hub}
use Rattle.odata_hub.specs.Connections.{ConnOf}
use Rattle.odata_hub.specs.Hopeless.{TellsHopeless}
use Rattle.odata_hub.specs.Stands.{LendsAt, TellsHopelessAt}
use Rattle.odata_rounds.specs.declared.slot.Slot.{Slot}
use Rattle.odata_rounds.specs.Peers.{WireOf}
use Rattle.odata_rounds.specs.Sights.{ServesAt, SightOf, VisitsAt, sight}
use Rattle.listen_sockets.specs.declared.sockets.Wire.{Wire}
use Rattle.listen_sockets.specs.Peer.{after_end}
use Rattle.listen_sockets.specs.Server.{IsEndIfHopeless, IsEndedIfHopeless, TellsHopelessOf, has_waiting}
use Rattle.listen_sockets.specs.Sockets.{ChangesPeer}

taken_whole : (n : ℕ) (new items : List Slot) → length new ≡ n → length items ≡ n → take n (new ++ drop (length new) items) ≡ new
taken_whole n new items a b =
    let none : drop (length new) items ≡ [] = drop_all (length new) items (omega (arith, a, b)) in
    ap (λ t. take n (new ++ t)) none ∙ ap (take n) (append-nil new) ∙ take_all n new (omega (arith, a))

visits_there : (place : ℕ) (a b : SightOf) → ServesAt place a b → VisitsAt place a b
visits_there place a b s =
    let P : Option Slot → Type 0 = λ o. MatchOption o (b ≡ a) (λ slot. ServesAt place a b) in subst P (sym s.slot_is) s

-- what a visit makes of its place is written back
pub visit_back : (n place : ℕ) (items now new : List Slot) (a b : Hub) (w v : ℕ → WireOf) → now ≡ items → length now ≡ n → length new ≡ length now
    → ServesAt place (sight a now w) (sight b new v)
    → VisitsAt place (sight a items w) (sight b (take n (new ++ drop (length new) items)) v)
visit_back n place items now new a b w v same len kept r =
    let size : length items ≡ n = ap length (sym same) ∙ len in
    let P : List Slot → Type 0 = λ x. ServesAt place (sight a x w) (sight b new v) in
    let Q : List Slot → Type 0 = λ x. ServesAt place (sight a items w) (sight b x v) in
    visits_there place _ _ (subst Q (sym (taken_whole n new items (kept ∙ len) size)) (subst P same r))

-- where there is no such place, nothing is done
pub visits_nowhere : (place : ℕ) (a : SightOf) → length a.slots ≤ place → VisitsAt place a a
visits_nowhere place a past =
    let P : Option Slot → Type 0 = λ o. MatchOption o (a ≡ a) (λ slot. ServesAt place a a) in subst P (sym (slice_get_past a.slots place past)) refl

-- ---- output that waits

front_waits : (front output : List ℕ) → IsFront front output → not (length front == 0) ≡ not (length output == 0)
front_waits [] output f = let none : output ≡ [] = f.some refl in rw none refl
front_waits (x ∷ front) output f =
    let long : length ((x ∷ front) ++ f.behind) ≡ length output = ap length f.whole in
    let some : 0 < length output = omega (arith, long, length-append (x ∷ front) f.behind) in grind (arith, nat_tests, some)

-- whether output waits, by the bytes that are lent
pub lent_waits : (o : Option ConnOf) (bytes : Bor (List ℕ)) → LendsAt o (Ok bytes) → not (length bytes.now == 0) ≡ has_waiting o
lent_waits None bytes e = absurd (cc e)
lent_waits (Some c) bytes e =
    let same : e.0 ≡ bytes = cc (e.1) in
    let P : Bor (List ℕ) → Type 0 = λ b. not (length b.now == 0) ≡ not (length c.output == 0) in subst P same (front_waits e.0.now c.output e.2)

pub none_lent : (o : Option ConnOf) (fault : HubFault) → LendsAt o (Err fault) → false ≡ has_waiting o
none_lent None fault e = refl
none_lent (Some c) fault e = absurd (cc (e.1))

-- ---- rests that can begin no head any more

-- what the hub tells of a connection, and where there is none
pub told_of : (o : Option ConnOf) (told : Bool) → TellsHopelessAt o (Ok told) → TellsHopelessOf o told
told_of None told e = absurd (cc e)
told_of (Some c) told e =
    let same : e.0 ≡ told = cc e.1 in
    let P : Bool → Type 0 = λ b. TellsHopeless c.rest b in subst P same e.2

pub untold_of : (o : Option ConnOf) (fault : HubFault) → TellsHopelessAt o (Err fault) → TellsHopelessOf o false
untold_of None fault e = refl
untold_of (Some c) fault e = absurd (cc e.1)

-- a stream is ended if its rest is reported as hopeless
pub told_ends : (o : Option ConnOf) (told old new : Bool) → TellsHopelessOf o told → told ≡ true → new ≡ true → IsEndedIfHopeless o old new
told_ends None told old new t e ends = absurd (false≢true (sym t ∙ e))
told_ends (Some c) told old new t e ends = inl (t.hopeless e, ends)

-- and no other socket is touched by that; if it is not reported so, none is
pub told_end : (now place : ℕ) (o : Option ConnOf) (told : Bool) (old new : List Wire) → TellsHopelessOf o told → told ≡ true
    → ChangesPeer place (after_end now) old new → IsEndIfHopeless now place o old new
told_end now place None told old new t e ends = absurd (false≢true (sym t ∙ e))
told_end now place (Some c) told old new t e ends = inl (t.hopeless e, ends)

pub untold_end : (now place : ℕ) (o : Option ConnOf) (told : Bool) (wires : List Wire) → TellsHopelessOf o told → told ≡ false
    → IsEndIfHopeless now place o wires wires
untold_end now place None told wires t e = refl
untold_end now place (Some c) told wires t e = inr (t.waits e, refl)
