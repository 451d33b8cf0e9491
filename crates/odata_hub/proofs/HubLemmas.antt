-- What a schedule is to one of its connections.
use Rattle.std.proofs.Common.{◌≡◌, ◌≢◌, ℕ, zero, suc, ◌<◌, Bool, true, List, [], ◌∷◌, length, get_or, Option, Some, None, refl, sym, ap, subst, ◌∙◌, inl, inr, arith, get_or-set_same, get_or-set_other}
use Rattle.std.specs.Prelude.{is_none}
use Rattle.std.specs.List.{position}
use Rattle.std.proofs.lemmas.List.Quantifiers.{position-Some}
use Rattle.std.proofs.lemmas.Bool.Decides.{eqb_tells}
use Rattle.odata_hub.specs.Connections.{ConnOf, fresh, Call, Answer, Opened, Own, Run}
use Rattle.odata_hub.specs.Schedules.{HubOf, Event, Open, On, Drop, Reload, Happening, conn_at, hub_with, StepsAt, OpensAt, CallsOn, FreesAt, HubStep, HubRun, own_before, own_of, stays_by, stays, opened}

-- a run that begins with the own events of a place, and where it leads
pub record Follows (c : ConnOf) (own : List Own) (place : ℕ) (stays : Bool) (end : HubOf) : Type 0 where
  pub last : ConnOf
  pub run : Run c own last
  pub here : stays ≡ true → conn_at end place ≡ Some last

-- a place that is taken is there
taken_within : (places : List (Option ConnOf)) (k : ℕ) (c : ConnOf) → get_or places k None ≡ Some c → k < length places
taken_within [] k c e = absurd (cc e)
taken_within (p ∷ places) zero c e = omega arith
taken_within (p ∷ places) (suc k) c e = let below : k < length places = taken_within places k c e in omega (arith, below)

at_same : (h : HubOf) (k : ℕ) (c : ConnOf) (o : Option ConnOf) → conn_at h k ≡ Some c → conn_at (hub_with h k o) k ≡ o
at_same h k c o e = get_or-set_same h.places k o None (taken_within h.places k c e)

at_other : (h : HubOf) (k j : ℕ) (o : Option ConnOf) → k ≢ j → conn_at (hub_with h j o) k ≡ conn_at h k
at_other h k j o ne = get_or-set_other h.places j k o None ne

-- `open` takes no place that is taken
free_other : (h : HubOf) (k p : ℕ) (c : ConnOf) → position is_none h.places ≡ Some p → conn_at h k ≡ Some c → k ≢ p
free_other h k p c found e same =
    let free : is_none (get_or h.places p None) ≡ true = (position-Some is_none h.places p None found).1 in
    absurd (cc (free, e, same))

pub opened_fresh : (h m : HubOf) (k : ℕ) → HubStep h Open (Opened k) m → conn_at m k ≡ Some fresh
opened_fresh h m k s = go (position is_none h.places) refl s where
  go : (o : Option ℕ) → position is_none h.places ≡ o → OpensAt h o (Opened k) m → conn_at m k ≡ Some fresh
  go None e s = absurd (cc (s.0))
  go (Some p) e s =
      let same : p ≡ k = cc (s.0) in
      let lt : p < length h.places = (position-Some is_none h.places p None e).0 in
      rw (s.1, ← same) (get_or-set_same h.places p (Some fresh) None lt)

-- any event that is not the place's own leaves it as it is
open_keeps : (h m : HubOf) (k : ℕ) (c : ConnOf) (answer : Answer) → conn_at h k ≡ Some c → HubStep h Open answer m → conn_at m k ≡ Some c
open_keeps h m k c answer e s = go (position is_none h.places) refl s where
  go : (o : Option ℕ) → position is_none h.places ≡ o → OpensAt h o answer m → conn_at m k ≡ Some c
  go None f s = rw s.1 e
  go (Some p) f s = rw s.1 (at_other h k p (Some fresh) (free_other h k p c f e) ∙ e)

on_keeps : (h m : HubOf) (k p : ℕ) (c : ConnOf) (call : Call) (answer : Answer) → conn_at h k ≡ Some c → k ≢ p → HubStep h (On p call) answer m
    → conn_at m k ≡ Some c
on_keeps h m k p c call answer e ne s = go (conn_at h p) s where
  go : (o : Option ConnOf) → CallsOn h p o call answer m → conn_at m k ≡ Some c
  go None s = rw s.1 e
  go (Some d) s = rw s.new_is (at_other h k p (Some s.next) ne ∙ e)

drop_keeps : (h m : HubOf) (k p : ℕ) (c : ConnOf) (answer : Answer) → conn_at h k ≡ Some c → k ≢ p → HubStep h (Drop p) answer m
    → conn_at m k ≡ Some c
drop_keeps h m k p c answer e ne s = go (conn_at h p) s where
  go : (o : Option ConnOf) → FreesAt h p o answer m → conn_at m k ≡ Some c
  go None s = rw s.1 e
  go (Some d) s = rw s.1 (at_other h k p None ne ∙ e)

pub on_steps : (h m : HubOf) (k : ℕ) (c : ConnOf) (call : Call) (answer : Answer) → conn_at h k ≡ Some c → HubStep h (On k call) answer m
    → StepsAt h k c call answer m
on_steps h m k c call answer e s = let P : Option ConnOf → Type 0 = λ o. CallsOn h k o call answer m in subst P e s

-- the own events of a connection are a run of it
pub isolated : (h e : HubOf) (k : ℕ) (c : ConnOf) (hs : List Happening) → HubRun h hs e → conn_at h k ≡ Some c
    → Follows c (own_of k hs) k (stays k hs) e
isolated h e k c [] r at = record { last = c; run = refl; here = λ _. rw r at }
isolated h e k c (x ∷ hs) r at = go (λ d here. isolated r.0 e k d hs r.2 here) x.event r.1 where
  go : ((d : ConnOf) → conn_at r.0 k ≡ Some d → Follows d (own_of k hs) k (stays k hs) e) → (event : Event) → HubStep h event x.answer r.0
      → Follows c (own_before k event x.answer (own_of k hs)) k (stays_by k event (stays k hs)) e
  go on Open s = on c (open_keeps h r.0 k c x.answer at s)
  go on (On p call) s =
      elim (eqb_tells p k) [
        | inl same ↦
            let here : HubStep h (On k call) x.answer r.0 = rw (← same.1) s in
            let one : StepsAt h k c call x.answer r.0 = on_steps h r.0 k c call x.answer at here in
            let rest : Follows one.next (own_of k hs) k (stays k hs) e =
            on one.next (ap (λ g. conn_at g k) one.new_is ∙ at_same h k c (Some one.next) at) in
            rw same.0 (record { last = rest.last; run = (one.next, one.step, rest.run); here = rest.here })
        | inr other ↦ rw other.0 (on c (on_keeps h r.0 k p c call x.answer at (λ e. other.1 (sym e)) s))
      ]
  go on (Drop p) s =
      elim (eqb_tells p k) [
        | inl same ↦ rw same.0 (record { last = c; run = refl; here = λ e. absurd (cc e) })
        | inr other ↦ rw other.0 (on c (drop_keeps h r.0 k p c x.answer at (λ e. other.1 (sym e)) s))
      ]
  go on (Reload catalog) s = on c (rw s.1 at)

-- a connection's run in a schedule
pub from_open : (h e : HubOf) (k : ℕ) (hs : List Happening) → HubRun h (opened k ∷ hs) e → Follows fresh (own_of k hs) k (stays k hs) e
from_open h e k hs r = isolated r.0 e k fresh hs r.2 (opened_fresh h r.0 k r.1)
