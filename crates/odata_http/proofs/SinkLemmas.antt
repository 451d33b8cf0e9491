-- Answers that go to a device.
use Rattle.std.proofs.Common.{◌≡◌, ◌≤◌, ◌+◌, inl, inr, ℕ, Bool, false, List, [], ◌∷◌, ◌++◌, length, take, drop, min, Result, Ok, Err, refl, sym, ap, ◌∙◌, subst, arith, append-nil, append_assoc, length-append}
use Rattle.std.proofs.lemmas.List.{drop_at, nil_from_length, take-append-le}
use Rattle.std.proofs.KnownBytes.{Appends-nil, Appends-trans}
use Rattle.std.proofs.Math.Seq.{take-append-add}
use Rattle.std.specs.List.{concat}
use Rattle.std.proofs.lemmas.List.Folds.{concat-append}
use Rattle.http_heads.specs.Head.{HeadOf}
use Rattle.http_heads.specs.Cut.{IsCut}
use Rattle.http_heads.proofs.ListLaws.{AllZip-append}
use Rattle.odata_http.specs.declared.answer.AnswerFault.{AnswerFault}
use Rattle.odata_http.specs.declared.answer.AnswerFault.TheVariants.{NoMemory, Write}
use Rattle.odata_http.specs.Device.{SinkOf}
use Rattle.odata_http.specs.Replies.{last_reply, IsCertain, AreFirstReplies, IsFrontOfReplies}
use Rattle.odata_http.specs.Answer.{HasWritten, HasFailed, IsSent, TakesAll, AnswersAll, AnswersSome, FailsOnRest, IsTakenIn, IsRestAnswered}
use Rattle.odata_http.proofs.AnswerLemmas.{failed_rest}

pub written_none : (s : SinkOf) → HasWritten s s []
written_none s = record { gained = Appends-nil s.taken; failed = refl }

pub written_step : {a b d : SinkOf} {xs ys : List ℕ} → HasWritten a b xs → HasWritten b d ys → HasWritten a d (xs ++ ys)
written_step {a} {b} {d} {xs} {ys} p q =
    record { gained = Appends-trans a.taken b.taken d.taken xs ys p.gained q.gained; failed = q.failed ∙ p.failed }

pub failed_step : {a b d : SinkOf} {xs ys : List ℕ} → HasWritten a b xs → HasFailed b d ys → HasFailed a d (xs ++ ys)
failed_step {a} {b} {d} {xs} {ys} p q =
    record { gained = Appends-trans a.taken b.taken d.taken xs ys p.gained q.gained; failed = rw p.failed at q.failed }

-- ---- one reply, piece by piece

pub sent_more : (sent piece behind reply after all : List ℕ) (n : ℕ) → sent ++ reply ≡ all → piece ++ behind ≡ reply → n ≡ min (length piece) (length reply)
    → after ≡ drop n reply → (sent ++ piece) ++ after ≡ all
sent_more sent piece behind reply after all n s whole count left =
    let long : length reply ≡ length (piece ++ behind) = ap length (sym whole) in
    let same : length piece ≡ n = omega (arith, count, long, length-append piece behind) in
    let rest : after ≡ behind = left ∙ ap (λ (l : List ℕ). drop n l) (sym whole) ∙ drop_at piece behind n same in
    append_assoc sent piece after ∙ ap (λ (l : List ℕ). sent ++ (piece ++ l)) rest ∙ ap (λ (l : List ℕ). sent ++ l) whole ∙ s

pub written_all : (a b : SinkOf) (sent reply all : List ℕ) → length reply ≡ 0 → sent ++ reply ≡ all → HasWritten a b sent → HasWritten a b all
written_all a b sent reply all none s h =
    let P : List ℕ → Type 0 = λ l. HasWritten a b l in
    subst P (sym (append-nil sent) ∙ ap (λ (l : List ℕ). sent ++ l) (sym (nil_from_length reply none)) ∙ s) h

-- a front of a piece was taken, and then a write failed
pub failed_front : (a b d : SinkOf) (sent reply piece behind all : List ℕ) (n : ℕ) → sent ++ reply ≡ all → piece ++ behind ≡ reply → HasWritten a b sent
    → n ≤ length piece → HasFailed b d (take n piece) → (m : ℕ) × (m ≤ length all) × HasFailed a d (take m all)
failed_front a b d sent reply piece behind all n s whole h few f =
    let long : length all ≡ length (sent ++ reply) = ap length (sym s) in
    let longer : length reply ≡ length (piece ++ behind) = ap length (sym whole) in
    let front : take (length sent + n) all ≡ sent ++ take n piece =
    ap (λ (l : List ℕ). take (length sent + n) l) (sym s) ∙ take-append-add sent reply n
    ∙ ap (λ (l : List ℕ). sent ++ take n l) (sym whole) ∙ ap (λ (l : List ℕ). sent ++ l) (take-append-le n piece behind few) in
    let P : List ℕ → Type 0 = λ l. HasFailed a d l in (
      length sent + n,
      omega (arith, long, longer, few, length-append sent reply, length-append piece behind),
      subst P (sym front) (failed_step h f),
    )

-- what giving a reply to a device makes of it
abbrev pub Sends : {S : Type 0} → (S → SinkOf) → S → List ℕ → Result (Unit {0}) AnswerFault → S → Type 0
Sends sink old reply result new = IsSent (sink old) reply result (sink new)

sent_all : {S : Type 0} (sink : S → SinkOf) (a : S) (rs : List (List ℕ)) (b : S) → TakesAll (Sends sink) a rs b → HasWritten (sink a) (sink b) (concat rs)
sent_all {S} sink a [] b p = let P : S → Type 0 = λ x. HasWritten (sink a) (sink x) [] in subst P (sym p) (written_none (sink a))
sent_all {S} sink a (r ∷ rs) b p = written_step p.1 (sent_all sink p.0 rs b p.2)

-- how a piece was answered over a device
abbrev pub IsPieceSent : (HeadOf → List ℕ → Type 0) → List ℕ → List ℕ → SinkOf → SinkOf → Result Bool AnswerFault → Type 0
IsPieceSent R stream kept old new (Ok closed) = (wrote : List ℕ) × IsCertain R stream wrote kept closed × HasWritten old new wrote
IsPieceSent R stream kept old new (Err NoMemory) = (wrote : List ℕ) × AreFirstReplies R stream wrote × HasWritten old new wrote
IsPieceSent R stream kept old new (Err Write) = (wrote : List ℕ) × IsFrontOfReplies R stream wrote false × HasFailed old new wrote

one_behind : (xs : List HeadOf) (x : HeadOf) (ys : List HeadOf) → xs ++ x ∷ ys ≡ (xs ++ x ∷ []) ++ ys
one_behind [] x ys = refl
one_behind (z ∷ xs) x ys = ap (λ (t : List HeadOf). z ∷ t) (one_behind xs x ys)

-- a front of the next reply after the replies so far
front_of_next : {S : Type 0} {R : HeadOf → List ℕ → Type 0} {T : S → List ℕ → Result (Unit {0}) AnswerFault → S → Type 0} {answered : List HeadOf}
    {head : HeadOf} {reply : List ℕ} {a b : S} (stream rest : List ℕ) (closed : Bool) (behind : List HeadOf) (n : ℕ)
    → IsCut stream (answered ++ head ∷ behind) rest closed → (all : AnswersAll R T answered a b) → R head reply
    → IsFrontOfReplies R stream (concat all.replies ++ take n reply) false
front_of_next {S} {R} {T} {answered} {head} {reply} {a} {b} stream rest closed behind n cut all is =
    let so_far = concat all.replies in record {
      replies = so_far ++ reply;
      are = record {
        answered = answered ++ head ∷ [];
        others = behind;
        rest = rest;
        closed = closed;
        cut = let P : List HeadOf → Type 0 = λ hs. IsCut stream hs rest closed in subst P (one_behind answered head behind) cut;
        replies = all.replies ++ reply ∷ [];
        each = AllZip-append R answered all.replies (head ∷ []) (reply ∷ []) all.each (is, tt);
        some_is = ap (λ (t : List ℕ). so_far ++ t) (sym (append-nil reply)) ∙ sym (concat-append all.replies (reply ∷ []));
      };
      count = length so_far + n;
      wrote_is = sym (take-append-add so_far reply n);
    }

-- the cut of a stream whose first heads were answered
pub answered_cut : {S : Type 0} {R : HeadOf → List ℕ → Type 0} {T : S → List ℕ → Result (Unit {0}) AnswerFault → S → Type 0} {heads : List HeadOf}
    {fault : AnswerFault} {a b : S} (stream rest : List ℕ) (closed : Bool) → IsCut stream heads rest closed → (some : AnswersSome R T heads fault a b)
    → IsCut stream (some.answered ++ some.others) rest closed
answered_cut {S} {R} {T} {heads} {fault} {a} {b} stream rest closed cut some =
    let P : List HeadOf → Type 0 = λ hs. IsCut stream hs rest closed in subst P some.heads_are cut

-- they are some of the first replies
pub first_answered : {S : Type 0} {R : HeadOf → List ℕ → Type 0} {T : S → List ℕ → Result (Unit {0}) AnswerFault → S → Type 0} {heads : List HeadOf}
    {fault : AnswerFault} {a b : S} (stream rest : List ℕ) (closed : Bool) → IsCut stream heads rest closed → (some : AnswersSome R T heads fault a b)
    → AreFirstReplies R stream (concat some.all.replies)
first_answered {S} {R} {T} {heads} {fault} {a} {b} stream rest closed cut some = record {
  answered = some.answered;
  others = some.others;
  rest = rest;
  closed = closed;
  cut = answered_cut stream rest closed cut some;
  replies = some.all.replies;
  each = some.all.each;
  some_is = refl;
}

stopped : {S : Type 0} {R : HeadOf → List ℕ → Type 0} (sink : S → SinkOf) {heads : List HeadOf} (fault : AnswerFault) {a b : S}
    (stream kept rest : List ℕ) (closed : Bool)
    → IsCut stream heads rest closed → AnswersSome R (Sends sink) heads fault a b → IsPieceSent R stream kept (sink a) (sink b) (Err fault)
stopped {S} {R} sink {heads} NoMemory {a} {b} stream kept rest closed cut some = elim some.stop [
  | inl lacks ↦
      let P : S → Type 0 = λ x. HasWritten (sink a) (sink x) (concat some.all.replies) in (
        concat some.all.replies,
        first_answered stream rest closed cut some,
        subst P (sym lacks.same) (sent_all sink a some.all.replies some.between some.all.taken),
      )
  | inr fails ↦ absurd fails.failed
]
stopped {S} {R} sink {heads} Write {a} {b} stream kept rest closed cut some = elim some.stop [
  | inl lacks ↦ absurd (let no : Write ≡ NoMemory = lacks.fault_is in cc)
  | inr fails ↦
      let P : List HeadOf → Type 0 = λ hs. IsCut stream (some.answered ++ hs) rest closed in
      let here : IsCut stream (some.answered ++ fails.head ∷ fails.behind) rest closed =
      subst P fails.heads_are (answered_cut stream rest closed cut some) in
      let sent = fails.failed in (
        concat some.all.replies ++ take sent.0 fails.reply,
        front_of_next stream rest closed fails.behind sent.0 here some.all fails.is,
        failed_step (sent_all sink a some.all.replies some.between some.all.taken) sent.2,
      )
]

pub piece_sent : {S : Type 0} (R : HeadOf → List ℕ → Type 0) (sink : S → SinkOf) (stream kept : List ℕ) (a b : S) (r : Result Bool AnswerFault)
    → IsTakenIn R (Sends sink) stream kept a b r → IsPieceSent R stream kept (sink a) (sink b) r
piece_sent {S} R sink stream kept a b (Ok closed) x = (
  concat x.2.replies,
  record { heads = x.0; replies = x.2.replies; cut = x.1; each = x.2.each; certain_is = refl },
  sent_all sink a x.2.replies b x.2.taken,
)
piece_sent {S} R sink stream kept a b (Err fault) x = stopped sink fault stream kept x.1 x.2 x.3 x.4

-- how a rest was answered over a device
abbrev pub IsRestSent : List ℕ → SinkOf → SinkOf → Result Bool AnswerFault → Type 0
IsRestSent rest old new (Ok answered) = HasWritten old new (last_reply rest)
IsRestSent rest old new (Err NoMemory) = HasWritten old new []
IsRestSent rest old new (Err Write) = (n : ℕ) × HasFailed old new (take n (last_reply rest))

rest_stopped : {S : Type 0} (sink : S → SinkOf) (rest : List ℕ) (fault : AnswerFault) (a b : S)
    → FailsOnRest (Sends sink) rest fault a b → IsRestSent rest (sink a) (sink b) (Err fault)
rest_stopped {S} sink rest NoMemory a b x = elim x.stop [
  | inl lacks ↦ let P : S → Type 0 = λ y. HasWritten (sink a) (sink y) [] in subst P (sym lacks.same) (written_none (sink a))
  | inr failed ↦ absurd failed
]
rest_stopped {S} sink rest Write a b x = elim x.stop [
  | inl lacks ↦ absurd (let no : Write ≡ NoMemory = lacks.fault_is in cc)
  | inr failed ↦ (failed.0, failed.2)
]

pub rest_sent : {S : Type 0} (sink : S → SinkOf) (rest : List ℕ) (a b : S) (r : Result Bool AnswerFault)
    → IsRestAnswered (Sends sink) rest a b r → IsRestSent rest (sink a) (sink b) r
rest_sent {S} sink [] a b (Ok answered) x =
    let P : S → Type 0 = λ y. HasWritten (sink a) (sink y) [] in subst P (sym x.1) (written_none (sink a))
rest_sent {S} sink (y ∷ rest) a b (Ok answered) x = x.1
rest_sent {S} sink rest a b (Err fault) x = rest_stopped sink rest fault a b (failed_rest (Sends sink) rest a b fault x)
