-- What visits leave at a place.
use Rattle.std.proofs.Common.{◌≡◌, ◌≢◌, ℕ, List, [], ◌∷◌, ◌++◌, take, drop, Option, None, Some, refl, sym, ap, ◌∙◌, subst, inl, inr, append_assoc, take-append-drop}
use Rattle.std.specs.Prelude.{Bool, true, false}
use Rattle.std.proofs.lemmas.Bool.{and_parts}
use Rattle.odata_hub.specs.declared.hub.Hub.{Hub}
use Rattle.odata_hub.specs.declared.answers.HubFault.{HubFault}
use Rattle.odata_hub.specs.declared.answers.Turned.TheVariants.{Idle}
use Rattle.odata_hub.specs.Connections.{Answer, Call, ConnOf, End, FlightOf, Gave, Own, Piece, Refused, Step, Take, Turn, Went, is_over, taken_of}
use Rattle.odata_hub.specs.Schedules.{CallsOn, HubOf, HubRun, HubStep, On, StepsAt, conn_at}
use Rattle.odata_hub.specs.Stands.{Models}
use Rattle.odata_hub.specs.Streams.{Asked}
use Rattle.odata_rounds.specs.declared.answers.SlotState.{SlotState}
use Rattle.odata_rounds.specs.declared.answers.SlotState.TheVariants.{Free, Rests, Worked, Answered, Lost, Failed}
use Rattle.odata_rounds.specs.Comes.{is_over_at, is_over_of}
use Rattle.odata_rounds.specs.Peers.{WireOf}
use Rattle.odata_rounds.specs.Visits.{AfterIdle, AfterTake, Became, HasOutput, IsAtRest, IsDry, Last, StandsAt, Visit, at_place, came, ends, gives, goes, idles, misses, none, nothing, reads, turned, waits}
use Rattle.odata_rounds.specs.Leaves.{AreOfOneReply, HoldsOneReply, IsAtEase, IsOneReply, MayTellOver, is_worked, output_of}
use Rattle.odata_rounds.proofs.CallLemmas.{IsIdle, IsStill, at_same, call_away, call_is, conn, given_end, given_piece, given_turn, idle_turn, one_empty, one_turn, output_end, output_piece, refused_turn, still_end, still_piece, took_is}

-- a connection's call is its step
step_here : (h n : HubOf) (place : ℕ) (c : ConnOf) (call : Call) (answer : Answer) → conn_at h place ≡ Some c → HubStep h (On place call) answer n
    → (d : ConnOf) × Step c call answer d × (conn_at n place ≡ Some d)
step_here h n place c call answer e s =
    let P : Option ConnOf → Type 0 = λ o. CallsOn h place o call answer n in
    let t : StepsAt h place c call answer n = subst P e s in
    (t.next, t.step, ap (λ g. conn_at g place) t.new_is ∙ at_same h place c (Some t.next) e)

-- ---- places at ease

ease_output : (o : Option ConnOf) → HasOutput o → IsAtEase o
ease_output None x = absurd x
ease_output (Some c) x = inl x

ease_free : (o : Option ConnOf) → o ≡ None → IsAtEase o
ease_free None e = tt
ease_free (Some c) e = absurd (cc e)

ease_idle : (d : ConnOf) (o : Option ConnOf) → IsIdle d → o ≡ Some d → IsAtEase o
ease_idle d o i e = let P : Option ConnOf → Type 0 = λ x. IsAtEase x in subst P (sym e) (inr (i.output, inl i.works))

ease_failed : (d : ConnOf) (o : Option ConnOf) → d.output ≡ [] → d.failed ≡ true → o ≡ Some d → IsAtEase o
ease_failed d o empty failed e = let P : Option ConnOf → Type 0 = λ x. IsAtEase x in subst P (sym e) (inr (empty, inr failed))

ease_still : (c d : ConnOf) (fault : HubFault) (o : Option ConnOf) → IsIdle c → d.output ≡ c.output → IsStill c d fault → o ≡ Some d
    → IsAtEase o
ease_still c d fault o i out (inl same) e = ease_idle c o i (e ∙ ap Some same)
ease_still c d fault o i out (inr x) e = ease_failed d o (out ∙ i.output) x.0 e

one_at : (d : ConnOf) (o : Option ConnOf) → IsOneReply d.output → o ≡ Some d → IsOneReply (output_of o)
one_at d o one e = let P : Option ConnOf → Type 0 = λ x. IsOneReply (output_of x) in subst P (sym e) one

-- ---- the calls where there is no output

record Tail (last : Last) (os : List Own) (o : Option ConnOf) : Type 0 where
  given : taken_of os ≡ []
  one : IsOneReply (output_of o)
  idle : last ≡ turned (Went Idle) → IsAtEase o
  refused_turn : (fault : HubFault) → last ≡ turned (Refused fault) → IsAtEase o
  refused_rest : (fault : HubFault) → last ≡ came (Refused fault) → IsAtEase o

tail_goes : (place : ℕ) (h n : HubOf) (c : ConnOf) (answer : Answer) → conn_at h place ≡ Some c → c.output ≡ []
    → HubStep h (On place Turn) answer n → Tail (turned answer) (record { call = Turn; answer = answer } ∷ []) (conn_at n place)
tail_goes place h n c answer e empty s =
    let t = step_here h n place c Turn answer e s in
    let P : Answer → Type 0 = λ a. Step c Turn a t.0 in record {
      given = ap (λ l. l ++ []) (given_turn c t.0 answer t.1);
      one = one_at t.0 (conn_at n place) (one_turn c t.0 answer empty t.1) t.2;
      idle = λ x. let is : answer ≡ Went Idle = cc x in ease_idle t.0 (conn_at n place) (idle_turn c t.0 empty (subst P is t.1)) t.2;
      refused_turn = λ fault x.
          let is : answer ≡ Refused fault = cc x in
          let r = refused_turn c t.0 fault empty (subst P is t.1) in ease_failed t.0 (conn_at n place) r.0 r.1 t.2;
      refused_rest = λ fault x. absurd (cc x);
    }

tail_idle : (place : ℕ) (h n : HubOf) (c : ConnOf) (last : Last) (os : List Own) → AfterIdle last os → conn_at h place ≡ Some c → IsIdle c
    → HubRun h (at_place place os) n → Tail last os (conn_at n place)
tail_idle place h n c _ _ nothing e i r =
    let here : conn_at n place ≡ Some c = ap (λ g. conn_at g place) r ∙ e in record {
      given = refl;
      one = one_at c (conn_at n place) (one_empty c.output i.output) here;
      idle = λ x. ease_idle c (conn_at n place) i here;
      refused_turn = λ fault x. absurd (cc x);
      refused_rest = λ fault x. absurd (cc x);
    }
tail_idle place h n c _ _ (reads catalog b bytes answer) e i r =
    let t = step_here h r.0 place c (Piece catalog (b ∷ bytes)) answer e r.1 in
    let here : conn_at n place ≡ Some t.0 = ap (λ g. conn_at g place) r.2 ∙ t.2 in
    let out : t.0.output ≡ c.output = output_piece c t.0 catalog (b ∷ bytes) answer t.1 in
    let P : Answer → Type 0 = λ a. Step c (Piece catalog (b ∷ bytes)) a t.0 in record {
      given = ap (λ l. l ++ []) (given_piece c t.0 catalog (b ∷ bytes) answer t.1);
      one = one_at t.0 (conn_at n place) (one_empty t.0.output (out ∙ i.output)) here;
      idle = λ x. absurd (cc x);
      refused_turn = λ fault x. absurd (cc x);
      refused_rest = λ fault x.
          let is : answer ≡ Refused fault = cc x in
          ease_still c t.0 fault (conn_at n place) i out (still_piece c t.0 catalog (b ∷ bytes) fault (subst P is t.1)) here;
    }
tail_idle place h n c _ _ (ends answer) e i r =
    let t = step_here h r.0 place c End answer e r.1 in
    let here : conn_at n place ≡ Some t.0 = ap (λ g. conn_at g place) r.2 ∙ t.2 in
    let out : t.0.output ≡ c.output = output_end c t.0 answer t.1 in
    let P : Answer → Type 0 = λ a. Step c End a t.0 in record {
      given = ap (λ l. l ++ []) (given_end c t.0 answer t.1);
      one = one_at t.0 (conn_at n place) (one_empty t.0.output (out ∙ i.output)) here;
      idle = λ x. absurd (cc x);
      refused_turn = λ fault x. absurd (cc x);
      refused_rest = λ fault x.
          let is : answer ≡ Refused fault = cc x in
          ease_still c t.0 fault (conn_at n place) i out (still_end c t.0 fault (subst P is t.1)) here;
    }

tail_take : (place : ℕ) (h n : HubOf) (c : ConnOf) (last : Last) (os : List Own) → AfterTake last os → conn_at h place ≡ Some c → c.output ≡ []
    → HubRun h (at_place place os) n → Tail last os (conn_at n place)
tail_take place h n c _ _ (goes answer) e empty r =
    let P : HubOf → Type 0 = λ g. HubStep h (On place Turn) answer g in tail_goes place h n c answer e empty (subst P (sym r.2) r.1)
tail_take place h n c _ _ (idles last os kind) e empty r =
    let t = step_here h r.0 place c Turn (Went Idle) e r.1 in
    let rest = tail_idle place r.0 n t.0 last os kind t.2 (idle_turn c t.0 empty t.1) r.2 in record {
      given = rest.given;
      one = rest.one;
      idle = rest.idle;
      refused_turn = rest.refused_turn;
      refused_rest = rest.refused_rest;
    }

-- ---- one visit

one_taken : (count : ℕ) (output left : List ℕ) → left ≡ drop count output → AreOfOneReply output → AreOfOneReply left
one_taken count output left d k = record {
  sent = k.sent ++ take count output;
  reply = k.reply;
  one = k.one;
  whole = append_assoc k.sent (take count output) left ∙ ap (λ (l : List ℕ). k.sent ++ l) (ap (λ (l : List ℕ). take count output ++ l) d ∙ take-append-drop count output)
      ∙ k.whole;
}

one_whole : (output : List ℕ) → IsOneReply output → AreOfOneReply output
one_whole output one = record { sent = []; reply = output; one = one; whole = refl }

-- a connection without output
dry_conn : (o : Option ConnOf) → IsDry o → (c : ConnOf) × (o ≡ Some c) × (c.output ≡ [])
dry_conn None e = absurd e
dry_conn (Some c) e = (c, refl, e)

dry_tail : (place : ℕ) (a : Hub) (h n : HubOf) (last : Last) (os : List Own) → StandsAt IsDry a place → Models a h → AfterTake last os
    → HubRun h (at_place place os) n → Tail last os (conn_at n place)
dry_tail place a h n last os dry s kind r =
    let c = dry_conn (conn_at h place) (dry h s) in tail_take place h n c.0 last os kind c.1 c.2 r

-- what the calls of a visit leave of the output
pub visit_one : (place : ℕ) (a : Hub) (h n : HubOf) (last : Last) (os : List Own) → Visit a place last os → Models a h → HubRun h (at_place place os) n
    → HoldsOneReply h place → HoldsOneReply n place
visit_one place a h n _ _ misses s r k = let Q : HubOf → Type 0 = λ g. HoldsOneReply g place in subst Q (sym r) k
visit_one place a h n _ _ waits s r k = let Q : HubOf → Type 0 = λ g. HoldsOneReply g place in subst Q (sym r) k
visit_one place a h n _ _ (gives count b bytes) s r k = elim (call_is h r.0 place (Take count) (Gave (b ∷ bytes)) r.1) [
  | inl x ↦ absurd (cc (x.1))
  | inr x ↦
      let t = took_is x.0 x.1 count (b ∷ bytes) x.3 in
      let Q : Option ConnOf → Type 0 = λ o. AreOfOneReply (output_of o) in
      let there : conn_at n place ≡ Some x.1 = ap (λ g. conn_at g place) r.2 ∙ x.4 in
      subst Q (sym there) (one_taken count x.0.output x.1.output t.left (subst Q x.2 k))
]
visit_one place a h n _ _ (none dry last os kind) s r k = one_whole (output_of (conn_at n place)) (dry_tail place a h n last os dry s kind r).one

-- what a visit came to leaves nothing to do
record Ends (last : Last) (o : Option ConnOf) : Type 0 where
  idle : last ≡ turned (Went Idle) → IsAtEase o
  refused_turn : (fault : HubFault) → last ≡ turned (Refused fault) → IsAtEase o
  refused_rest : (fault : HubFault) → last ≡ came (Refused fault) → IsAtEase o

visit_ends : (place : ℕ) (a : Hub) (h n : HubOf) (last : Last) (os : List Own) → Visit a place last os → Models a h → HubRun h (at_place place os) n
    → Ends last (conn_at n place)
visit_ends place a h n _ _ misses s r =
    record { idle = λ x. absurd (cc x); refused_turn = λ fault x. absurd (cc x); refused_rest = λ fault x. absurd (cc x) }
visit_ends place a h n _ _ waits s r =
    record { idle = λ x. absurd (cc x); refused_turn = λ fault x. absurd (cc x); refused_rest = λ fault x. absurd (cc x) }
visit_ends place a h n _ _ (gives count b bytes) s r =
    record { idle = λ x. absurd (cc x); refused_turn = λ fault x. absurd (cc x); refused_rest = λ fault x. absurd (cc x) }
visit_ends place a h n _ _ (none dry last os kind) s r =
    let t = dry_tail place a h n last os dry s kind r in record { idle = t.idle; refused_turn = t.refused_turn; refused_rest = t.refused_rest }

ease_rest : (place : ℕ) (b : Hub) (n : HubOf) (last : Last) → Models b n → Ends last (conn_at n place) → IsAtRest b place last → IsAtEase (conn_at n place)
ease_rest place b n last s left (inl x) = ease_output (conn_at n place) (x.1 n s)
ease_rest place b n last s left (inr x) = left.idle x.0

ease_by : (place : ℕ) (b : Hub) (n : HubOf) (old new : WireOf) (sent : List ℕ) (last : Last) (state : SlotState) → Models b n
    → Ends last (conn_at n place) → Became state b place old new sent last → is_worked state ≡ false → IsAtEase (conn_at n place)
ease_by place b n old new sent last Free s left x w = ease_free (conn_at n place) (x.1 n s)
ease_by place b n old new sent last Rests s left x w = ease_rest place b n last s left x.1
ease_by place b n old new sent last Worked s left x w = absurd (cc w)
ease_by place b n old new sent last Answered s left (inl x) w = left.refused_rest _ x
ease_by place b n old new sent last Answered s left (inr x) w = left.idle x.0
ease_by place b n old new sent last Lost s left x w = ease_rest place b n last s left x.1
ease_by place b n old new sent last Failed s left (fault, inl x) w = left.refused_turn fault x
ease_by place b n old new sent last Failed s left (fault, inr x) w = left.refused_rest fault x.1

-- a visit that did nothing leaves its place at ease
pub visit_ease : (place : ℕ) (a b : Hub) (h n : HubOf) (old new : WireOf) (sent : List ℕ) (last : Last) (os : List Own) (state : SlotState)
    → Visit a place last os → Models a h → HubRun h (at_place place os) n → Models b n → Became state b place old new sent last
    → is_worked state ≡ false → IsAtEase (conn_at n place)
visit_ease place a b h n old new sent last os state v s r t x w =
    ease_by place b n old new sent last state t (visit_ends place a h n last os v s r) x w

pub calls_away : (place other : ℕ) (h n : HubOf) (os : List Own) → other ≢ place → HubRun h (at_place place os) n → conn_at n other ≡ conn_at h other
calls_away place other h n [] away r = ap (λ g. conn_at g other) r
calls_away place other h n (o ∷ os) away r =
    calls_away place other r.0 n os away r.2 ∙ call_away h r.0 place other o.call o.answer away r.1

-- ---- a place whose connection is over

-- no output waits there
over_conn : (rest : List ℕ) (waiting : List Asked) (flight : Option FlightOf) (output : List ℕ) (closed ended failed : Bool)
    → is_over (conn rest waiting flight output closed ended failed) ≡ true → output ≡ []
over_conn rest waiting flight [] closed ended failed e = refl
over_conn rest waiting flight (x ∷ output) closed ended failed e = let bad : false ≡ true = (and_parts _ false e).1 in absurd (cc bad)

over_dry : (o : Option ConnOf) → is_over_of o ≡ true → HasOutput o → ⊥
over_dry None e x = x
over_dry (Some c) e x = x (over_conn c.rest c.waiting c.flight c.output c.closed c.ended c.failed e)

rests_open : (place : ℕ) (b : Hub) (n : HubOf) (last : Last) → Models b n → IsAtRest b place last → is_over_at n place ≡ true → ⊥
rests_open place b n last s (inl x) over = over_dry (conn_at n place) over (x.1 n s)
rests_open place b n last s (inr x) over = let bad : false ≡ true = sym (x.1 n s) ∙ over in absurd (cc bad)

-- a visit tells a place that its connection is over
pub visit_over : (place : ℕ) (b : Hub) (n : HubOf) (old new : WireOf) (sent : List ℕ) (last : Last) (state : SlotState) → Models b n
    → Became state b place old new sent last → is_over_at n place ≡ true → MayTellOver state
visit_over place b n old new sent last Free s x over =
    let none : is_over_at n place ≡ false = ap is_over_of (x.1 n s) in
    let bad : false ≡ true = sym none ∙ over in absurd (cc bad)
visit_over place b n old new sent last Rests s x over = rests_open place b n last s x.1 over
visit_over place b n old new sent last Worked s x over = tt
visit_over place b n old new sent last Answered s x over = tt
visit_over place b n old new sent last Lost s x over = rests_open place b n last s x.1 over
visit_over place b n old new sent last Failed s x over = tt
