-- How the answers to heads join.
use Rattle.std.proofs.Common.{◌≡◌, ◌+◌, ◌<◌, inl, inr, ℕ, true, false, List, [], ◌∷◌, ◌++◌, length, take, drop, get_or, suc, Result, Ok, Err, Option, Some, None, ◌↔◌, refl, sym, ap, ◌∙◌, subst, arith, drop-cons, add-one}
use Rattle.std.specs.Prelude.{IsSome}
use Rattle.std.proofs.lemmas.Bool.{false≢true}
use Rattle.std.proofs.lemmas.List.{take-append-drop, take_more}
use Rattle.http_heads.specs.Head.{HeadOf}
use Rattle.http_heads.specs.Laws.{OneCut}
use Rattle.http_heads.proofs.ListLaws.{AllZip-append}
use Rattle.odata_http.specs.declared.answer.AnswerFault.{AnswerFault}
use Rattle.odata_http.specs.declared.answer.AnswerFault.TheVariants.{NoMemory}
use Rattle.odata_http.specs.Reply.{rest_reply}
use Rattle.odata_http.proofs.RepliesLemmas.{last_some}
use Rattle.odata_http.specs.Answer.{TakesAll, AnswersAll, AnswersSome, FailsOnRest, IsTakenIn, IsRestAnswered}

takes_snoc : {S : Type 0} (T : S → List ℕ → Result (Unit {0}) AnswerFault → S → Type 0) (a : S) (rs : List (List ℕ)) (b : S) (r : List ℕ) (d : S)
    → TakesAll T a rs b → T b r (Ok tt) d → TakesAll T a (rs ++ r ∷ []) d
takes_snoc {S} T a [] b r d p q = let P : S → Type 0 = λ x. T x r (Ok tt) d in (d, subst P p q, refl)
takes_snoc {S} T a (x ∷ rs) b r d p q = (p.0, p.1, takes_snoc T p.0 rs b r d p.2 q)

-- no head was answered yet
pub all_none : {S : Type 0} (R : HeadOf → List ℕ → Type 0) (T : S → List ℕ → Result (Unit {0}) AnswerFault → S → Type 0) (a : S) → AnswersAll R T [] a a
all_none R T a = record { replies = []; each = tt; taken = refl }

-- one more was
pub all_more : {S : Type 0} {R : HeadOf → List ℕ → Type 0} {T : S → List ℕ → Result (Unit {0}) AnswerFault → S → Type 0} {heads : List HeadOf} {head : HeadOf}
    {reply : List ℕ} {a b d : S} → AnswersAll R T heads a b → R head reply → T b reply (Ok tt) d → AnswersAll R T (heads ++ head ∷ []) a d
all_more {S} {R} {T} {heads} {head} {reply} {a} {b} {d} so_far is took = record {
  replies = so_far.replies ++ reply ∷ [];
  each = AllZip-append R heads so_far.replies (head ∷ []) (reply ∷ []) so_far.each (is, tt);
  taken = takes_snoc T a so_far.replies b reply d so_far.taken took;
}

-- the heads before a place, the one at it and those after it
pub heads_at : (heads : List HeadOf) (k : ℕ) (head : HeadOf) → k < length heads → head ≡ get_or heads k head
    → heads ≡ take k heads ++ head ∷ drop (k + 1) heads
heads_at heads k head within at =
    sym (take-append-drop k heads) ∙ ap (λ rest. take k heads ++ rest) (at_place heads k head within at)
  where
    at_place : (hs : List HeadOf) (i : ℕ) (h : HeadOf) → i < length hs → h ≡ get_or hs i h → drop i hs ≡ h ∷ drop (i + 1) hs
    at_place hs i h less e = rw add-one (drop-cons hs i h less ∙ ap (λ x. x ∷ drop (suc i) hs) (sym e))

-- one head more
pub heads_more : (heads : List HeadOf) (k : ℕ) (head : HeadOf) → k < length heads → head ≡ get_or heads k head
    → take (k + 1) heads ≡ take k heads ++ head ∷ []
heads_more heads k head within at = take_more heads k head within ∙ ap (λ last. take k heads ++ last ∷ []) (sym at)

-- memory ran out before the reply to a head was made
pub stops_unmade : {S : Type 0} {R : HeadOf → List ℕ → Type 0} {T : S → List ℕ → Result (Unit {0}) AnswerFault → S → Type 0} {heads before : List HeadOf}
    {fault : AnswerFault} {a b : S} (others : List HeadOf) → heads ≡ before ++ others → AnswersAll R T before a b → fault ≡ NoMemory → AnswersSome R T heads fault a b
stops_unmade {S} {R} {T} {heads} {before} {fault} {a} {b} others split so_far want = record {
  answered = before;
  others = others;
  heads_are = split;
  between = b;
  all = so_far;
  stop = inl (record { fault_is = want; same = refl });
}

-- the reply to a head was not taken
pub stops_untaken : {S : Type 0} {R : HeadOf → List ℕ → Type 0} {T : S → List ℕ → Result (Unit {0}) AnswerFault → S → Type 0} {heads before : List HeadOf}
    {head : HeadOf} {reply : List ℕ} {fault : AnswerFault} {a b d : S} (behind : List HeadOf) → heads ≡ before ++ head ∷ behind → AnswersAll R T before a b
    → R head reply → T b reply (Err fault) d → AnswersSome R T heads fault a d
stops_untaken {S} {R} {T} {heads} {before} {head} {reply} {fault} {a} {b} {d} behind split so_far is failed = record {
  answered = before;
  others = head ∷ behind;
  heads_are = split;
  between = b;
  all = so_far;
  stop = inr (record { head = head; behind = behind; heads_are = refl; reply = reply; is = is; failed = failed });
}

-- memory ran out before the piece was cut
pub taken_uncut : {S : Type 0} {R : HeadOf → List ℕ → Type 0} {T : S → List ℕ → Result (Unit {0}) AnswerFault → S → Type 0} {fault : AnswerFault}
    (stream kept : List ℕ) (a : S) → OneCut → fault ≡ NoMemory → IsTakenIn R T stream kept a a (Err fault)
taken_uncut {S} {R} {T} {fault} stream kept a cuts want =
    let cut = cuts.some stream in (cut.0, cut.1, cut.2, cut.3, stops_unmade {before = []} cut.0 refl (all_none R T a) want)

-- ---- the rest

pub rest_none : {S A : Type 0} (T : S → List ℕ → Result (Unit {0}) AnswerFault → S → Type 0) (found : Option A) (rest : List ℕ) (a : S)
    → (IsSome found ↔ (0 < length rest)) → found ≡ None → IsRestAnswered T rest a a (Ok false)
rest_none T found [] a e none = (refl, refl)
rest_none T found (b ∷ rest) a e none =
    let some : 0 < length (b ∷ rest) = omega arith in absurd (false≢true (rw none at (e.1 some)))

-- a rest that was found is not empty
pub rest_long : {A : Type 0} {found : Option A} {x : A} (rest : List ℕ) → (IsSome found ↔ (0 < length rest)) → found ≡ Some x → 0 < length rest
rest_long {A} {found} {x} rest e is = e.0 (rw is refl)

pub rest_some : {S : Type 0} (T : S → List ℕ → Result (Unit {0}) AnswerFault → S → Type 0) (rest : List ℕ) (a b : S)
    → 0 < length rest → T a rest_reply (Ok tt) b → IsRestAnswered T rest a b (Ok true)
rest_some T [] a b long took = absurd (omega (arith, long))
rest_some T (x ∷ rest) a b long took = (refl, took)

pub rest_unmade : {S : Type 0} (T : S → List ℕ → Result (Unit {0}) AnswerFault → S → Type 0) (rest : List ℕ) (a : S) (fault : AnswerFault)
    → 0 < length rest → fault ≡ NoMemory → FailsOnRest T rest fault a a
rest_unmade T rest a fault long want = record { some = long; stop = inl (record { fault_is = want; same = refl }) }

pub rest_untaken : {S : Type 0} (T : S → List ℕ → Result (Unit {0}) AnswerFault → S → Type 0) (rest : List ℕ) (a b : S) (fault : AnswerFault)
    → 0 < length rest → T a rest_reply (Err fault) b → FailsOnRest T rest fault a b
rest_untaken T rest a b fault long failed = record { some = long; stop = inr (rw (last_some rest long) failed) }

-- the fault of a rest, whatever its bytes are
pub rest_failed : {S : Type 0} (T : S → List ℕ → Result (Unit {0}) AnswerFault → S → Type 0) (rest : List ℕ) (a b : S) (fault : AnswerFault)
    → FailsOnRest T rest fault a b → IsRestAnswered T rest a b (Err fault)
rest_failed T [] a b fault x = x
rest_failed T (y ∷ rest) a b fault x = x

pub failed_rest : {S : Type 0} (T : S → List ℕ → Result (Unit {0}) AnswerFault → S → Type 0) (rest : List ℕ) (a b : S) (fault : AnswerFault)
    → IsRestAnswered T rest a b (Err fault) → FailsOnRest T rest fault a b
failed_rest T [] a b fault x = x
failed_rest T (y ∷ rest) a b fault x = x
