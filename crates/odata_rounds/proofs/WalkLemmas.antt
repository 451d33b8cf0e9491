-- What a visit leaves of a hub.
use Rattle.std.proofs.Common.{◌≡◌, ℕ, zero, suc, false, List, [], ◌∷◌, set, Some, refl, sym, ap, ◌∙◌, subst}
use Rattle.std.specs.Prelude.{slice_get}
use Rattle.odata_hub.specs.Connections.{taken_of}
use Rattle.odata_hub.specs.Schedules.{HubOf, conn_at}
use Rattle.odata_hub.specs.Stands.{Models}
use Rattle.odata_rounds.specs.declared.slot.Slot.{Slot}
use Rattle.odata_rounds.specs.Visits.{at_place}
use Rattle.odata_rounds.specs.Sights.{ServesAt, SightOf}
use Rattle.odata_rounds.specs.Leaves.{IsAtEase, IsToldOver, Leaves, VisitLeaves, is_worked}
use Rattle.odata_rounds.proofs.RunLemmas.{hub_run}
use Rattle.odata_rounds.proofs.LawLemmas.{calls_at}
use Rattle.odata_rounds.proofs.LeaveLemmas.{calls_away, visit_ease, visit_one, visit_over}

get_set : (slots : List Slot) (place : ℕ) (slot next : Slot) → slice_get slots place ≡ Some slot → slice_get (set slots place next) place ≡ Some next
get_set [] place slot next e = absurd (cc e)
get_set (x ∷ slots) zero slot next e = refl
get_set (x ∷ slots) (suc place) slot next e = get_set slots place slot next e

-- what is kept of the place is what became of it
slot_here : (place : ℕ) (a b : SightOf) (s : ServesAt place a b) (slot : Slot) → slice_get b.slots place ≡ Some slot → slot ≡ s.next
slot_here place a b s slot e =
    let is : slice_get b.slots place ≡ Some s.next = ap (λ l. slice_get l place) s.slots_are ∙ get_set a.slots place s.slot s.next s.slot_is in
    let same : Some slot ≡ Some s.next = sym e ∙ is in cc same

pub visit_leaves : VisitLeaves
visit_leaves place a b h s stands =
    let v = s.serves in
    let r = v.run h stands in
    let run = hub_run h r.0 (at_place place v.os) r.1 in record {
      next = r.0;
      events = at_place place v.os;
      calls = calls_at place v.os;
      run = r.1;
      stands = r.2;
      one_reply = visit_one place a.hub h r.0 v.last v.os v.visit stands run;
      at_ease = λ slot e w.
          let P : Slot → Type 0 = λ x. is_worked x.state ≡ false → IsAtEase (conn_at r.0 place) in
          subst P (sym (slot_here place a b s slot e))
          (visit_ease place a.hub b.hub h r.0 (a.wires place) (b.wires place) (taken_of v.os) v.last v.os s.next.state v.visit stands run r.2 v.became) w;
      over = λ slot e.
          let P : Slot → Type 0 = λ x. IsToldOver r.0 place x in
          subst P (sym (slot_here place a b s slot e))
          (visit_over place b.hub r.0 (a.wires place) (b.wires place) (taken_of v.os) v.last s.next.state r.2 v.became);
      others = λ other away. calls_away place other h r.0 v.os away run;
    }
