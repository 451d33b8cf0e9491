-- What a connection was given is a front of its replies, and a turn with nothing to do finds all of them given or in the output.
use Rattle.std.proofs.Common.{◌≡◌, ℕ, Bool, true, false, List, [], ◌∷◌, ◌++◌, Option, Some, None, refl, sym, ap, ap₂, subst, ◌∙◌, inl, inr, append_assoc, append-nil}
use Rattle.std.specs.Prelude.{if◌then◌else◌}
use Rattle.std.specs.List.{AllZip, concat}
use Rattle.std.proofs.lemmas.List.Folds.{concat-append}
use Rattle.http_heads.specs.Laws.{OneCut, CutsJoin}
use Rattle.odata_http.specs.Replies.{last_reply}
use Rattle.odata_http.specs.Laws.{OneReply, UnderTables}
use Rattle.odata_hub.specs.declared.answers.HubFault.TheVariants.{Failed}
use Rattle.odata_hub.specs.declared.answers.Turned.TheVariants.{Idle, Worked}
use Rattle.odata_hub.specs.Streams.{Came, Asked, IsCutUnder}
use Rattle.odata_hub.specs.Replies.{IsReplyTo, IsBehind, AreHubReplies}
use Rattle.odata_hub.specs.Connections.{ConnOf, FlightOf, fresh, Turn, Went, Refused, works_by, Step, Own, Run, stream_of, taken_of, input_ended}
use Rattle.odata_hub.specs.Laws.{IsAllAnswered, IsFrontOf, IsGiven}
use Rattle.odata_hub.proofs.StreamLemmas.{one_under}
use Rattle.odata_hub.proofs.ConnLemmas.{IsLeft, Keeps, heads_in}
use Rattle.odata_hub.proofs.RunLemmas.{Keeps-own}

-- the replies to all of these heads are those to the first, and then others
record Others (all each : List (List ℕ)) : Type 0 where
  later : List (List ℕ)
  all_are : all ≡ each ++ later

first_replies : UnderTables OneReply → (heads others : List Asked) (all each : List (List ℕ)) → AllZip IsReplyTo (heads ++ others) all
    → AllZip IsReplyTo heads each → Others all each
first_replies one [] others all [] p q = record { later = all; all_are = refl }
first_replies one [] others all (y ∷ each) p q = absurd q
first_replies one (a ∷ heads) others [] each p q = absurd p
first_replies one (a ∷ heads) others (x ∷ all) [] p q = absurd q
first_replies one (a ∷ heads) others (x ∷ all) (y ∷ each) p q =
    let tail = first_replies one heads others all each p.1 q.1 in
    record {
      later = tail.later;
      all_are = ap₂ (λ (r : List ℕ) (rs : List (List ℕ)). r ∷ rs) (one a.catalog a.head x y p.0 q.0) tail.all_are;
    }

no_other : (heads : List Asked) (each later : List (List ℕ)) → AllZip IsReplyTo heads each → AllZip IsReplyTo heads (each ++ later) → later ≡ []
no_other [] [] [] p q = refl
no_other [] [] (y ∷ later) p q = absurd q
no_other [] (x ∷ each) later p q = absurd p
no_other (a ∷ heads) [] later p q = absurd p
no_other (a ∷ heads) (x ∷ each) later p q = no_other heads each later p.1 q.1

-- of all replies, where there are all
front_of : (taken output all behind tail : List ℕ) (each later replies : List (List ℕ)) → taken ++ output ≡ concat each ++ behind → behind ≡ []
    → replies ≡ each ++ later → all ≡ concat replies ++ tail → IsFrontOf taken all
front_of taken output all behind tail each later replies k none split e = (
  output ++ (concat later ++ tail),
  sym (append_assoc taken output (concat later ++ tail))
      ∙ ap (λ (x : List ℕ). x ++ (concat later ++ tail)) (k ∙ ap (λ (b : List ℕ). concat each ++ b) none ∙ append-nil (concat each))
      ∙ sym (append_assoc (concat each) (concat later) tail) ∙ ap (λ (x : List ℕ). x ++ tail) (sym (concat-append each later) ∙ ap concat (sym split))
      ∙ sym e,
)

tail_is : (ended : Bool) (rest left behind : List ℕ) → ended ≡ true → rest ≡ left → behind ≡ last_reply left
    → behind ≡ (if ended then last_reply rest else [])
tail_is true rest left behind e same b = b ∙ ap last_reply (sym same)
tail_is false rest left behind e same b = absurd (cc e)

front_whole : OneCut → UnderTables OneReply → (c : ConnOf) (s : List Came) (ended : Bool) (taken : List ℕ) → Keeps c s ended taken
    → (all : List ℕ) → AreHubReplies s ended all → IsFrontOf taken all
front_whole cuts one c s ended taken k all r =
    let same = one_under cuts s r.heads (k.answered ++ k.others) r.rest k.left r.closed k.shut r.cut k.cut in
    let A : List Asked → Type 0 = λ hs. AllZip IsReplyTo hs r.each in
    let are : AllZip IsReplyTo (k.answered ++ k.others) r.each = subst A same.0 r.are in
    let parts = first_replies one k.answered k.others r.each k.each are k.are in
    elim k.behind_is [
      | inl none ↦ front_of taken c.output all k.behind (if ended then last_reply r.rest else []) k.each parts.later r.each k.all none parts.all_are r.replies_are
      | inr x ↦
          let P : List Asked → Type 0 = λ hs. AllZip IsReplyTo (k.answered ++ hs) r.each in
          let Q : List Asked → Type 0 = λ hs. AllZip IsReplyTo hs r.each in
          let S : List (List ℕ) → Type 0 = λ rs. AllZip IsReplyTo k.answered rs in
          let no_later : parts.later ≡ [] = no_other k.answered k.each parts.later k.are
          (subst S parts.all_are (subst Q (append-nil k.answered) (subst P x.1 are))) in
          let each_same : r.each ≡ k.each = parts.all_are ∙ ap (λ (l : List (List ℕ)). k.each ++ l) no_later ∙ append-nil k.each in (
            c.output,
            k.all ∙ ap₂ (λ (e : List (List ℕ)) (t : List ℕ). concat e ++ t) (sym each_same) (tail_is ended r.rest k.left k.behind x.0 same.1 x.2)
                ∙ sym r.replies_are,
          )
    ]

-- what is taken is a front of the replies
pub front_taken : OneCut → CutsJoin → UnderTables OneReply → (d : ConnOf) (os : List Own) → Run fresh os d → IsGiven os
front_taken cuts joins one d os h =
    let k : Keeps d (stream_of os) (input_ended os) (taken_of os) = Keeps-own cuts joins d os h in
    record {
      some = concat k.each ++ k.behind;
      first = record {
        answered = k.answered;
        others = k.others;
        rest = k.left;
        closed = k.shut;
        cut = k.cut;
        each = k.each;
        are = k.are;
        behind = k.behind;
        behind_is = k.behind_is;
        some_are = refl;
      };
      front = (d.output, k.all);
      whole = front_whole cuts one d (stream_of os) (input_ended os) (taken_of os) k;
    }

idle_by : (failed works : Bool) → Went Idle ≡ (if failed then Refused Failed else Went (if works then Worked else Idle))
    → (failed ≡ false) × (works ≡ false)
idle_by true works e = absurd (cc e)
idle_by false true e = absurd (cc e)
idle_by false false e = (refl, refl)

record IsEmpty (flight : Option FlightOf) (waiting : List Asked) (ended : Bool) (rest : List ℕ) : Type 0 where
  flight_is : flight ≡ None
  waiting_is : waiting ≡ []
  rest_is : ended ≡ true → rest ≡ []

idle_empty : (flight : Option FlightOf) (waiting : List Asked) (ended : Bool) (rest : List ℕ) → works_by flight waiting ended rest ≡ false
    → IsEmpty flight waiting ended rest
idle_empty (Some f) waiting ended rest e = absurd (cc e)
idle_empty None (h ∷ waiting) ended rest e = absurd (cc e)
idle_empty None [] true (b ∷ rest) e = absurd (cc e)
idle_empty None [] true [] e = record { flight_is = refl; waiting_is = refl; rest_is = λ _. refl }
idle_empty None [] false rest e = record { flight_is = refl; waiting_is = refl; rest_is = λ e. absurd (cc e) }

-- what stands after the replies to the heads is the reply to the rest, if the stream ended
behind_due : (ended : Bool) (others : List Asked) (rest left behind : List ℕ) → IsBehind ended others left behind
    → (ended ≡ true → rest ≡ []) → (ended ≡ true → IsLeft rest left behind) → behind ≡ (if ended then last_reply left else [])
behind_due false others rest left behind (inl none) empty is = none
behind_due false others rest left behind (inr x) empty is = absurd (cc (x.0))
behind_due true others rest left behind b empty is = elim (is refl) [
  | inl x ↦ x.1 ∙ ap last_reply (sym (empty refl) ∙ x.0)
  | inr x ↦ x.1
]

-- after a turn with nothing to do all is answered
pub idle_answered : OneCut → CutsJoin → (c d : ConnOf) (os : List Own) → Run fresh os c → Step c Turn (Went Idle) d → IsAllAnswered os c
idle_answered cuts joins c d os h (inr w) = absurd (cc (w.0))
idle_answered cuts joins c d os h (inl a) =
    let k : Keeps c (stream_of os) (input_ended os) (taken_of os) = Keeps-own cuts joins c os h in
    let idle : (c.failed ≡ false) × (works_by c.flight c.waiting c.ended c.rest ≡ false) = idle_by c.failed _ a.0 in
    let empty : IsEmpty c.flight c.waiting c.ended c.rest = idle_empty c.flight c.waiting c.ended c.rest idle.1 in
    let rest : input_ended os ≡ true → c.rest ≡ [] = λ e. empty.rest_is (k.ended_is idle.0 ∙ e) in
    let none : k.others ≡ [] =
    sym (k.owes idle.0) ∙ ap₂ (λ (f : Option FlightOf) (w : List Asked). heads_in f ++ w) empty.flight_is empty.waiting_is in
    let A : List Asked → Type 0 = λ hs. IsCutUnder (stream_of os) hs k.left k.shut in
    let due = behind_due (input_ended os) k.others c.rest k.left k.behind k.behind_is rest (k.rests idle.0) in
    record {
      waiting = empty.waiting_is;
      flight = empty.flight_is;
      rest = rest;
      given = record {
        heads = k.answered;
        rest = k.left;
        closed = k.shut;
        cut = subst A (ap (λ (hs : List Asked). k.answered ++ hs) none ∙ append-nil k.answered) k.cut;
        each = k.each;
        are = k.are;
        replies_are = k.all ∙ ap (λ (b : List ℕ). concat k.each ++ b) due;
      };
    }
