-- Answers that go to an output.
use Rattle.std.proofs.Common.{◌≡◌, inl, inr, ℕ, ◌<◌, Bool, true, nat_lt, List, [], ◌∷◌, ◌++◌, length, Ok, Err, refl, sym, ap, ◌∙◌, append-nil, append_assoc, arith}
use Rattle.std.specs.List.{concat}
use Rattle.std.proofs.lemmas.Bool.Decides.{nat_tests}
use Rattle.http_heads.specs.Head.{HeadOf}
use Rattle.odata_http.specs.declared.answer.AnswerFault.{AnswerFault}
use Rattle.odata_http.specs.declared.answer.AnswerFault.TheVariants.{NoMemory, Write}
use Rattle.odata_http.specs.Output.{IsAddedReply}
use Rattle.odata_http.specs.Replies.{last_reply, IsCertain, AreFirstReplies}
use Rattle.odata_http.specs.Answer.{TakesAll, AnswersSome, IsTakenIn, IsRestAnswered}
use Rattle.odata_http.proofs.SinkLemmas.{first_answered}
use Rattle.odata_http.proofs.AnswerLemmas.{failed_rest}

pushed_all : (a : List ℕ) (rs : List (List ℕ)) (b : List ℕ) → TakesAll IsAddedReply a rs b → b ≡ a ++ concat rs
pushed_all a [] b p = p ∙ sym (append-nil a)
pushed_all a (r ∷ rs) b p = pushed_all p.0 rs b p.2 ∙ ap (λ (t : List ℕ). t ++ concat rs) p.1 ∙ append_assoc a r (concat rs)

-- a reply that was not pushed whole was not pushed at all
same_at : (fault : AnswerFault) (old reply new : List ℕ) → IsAddedReply old reply (Err fault) new → new ≡ old
same_at NoMemory old reply new p = p
same_at Write old reply new p = absurd p

-- what a piece adds
pub piece_pushed : (R : HeadOf → List ℕ → Type 0) (stream kept a b : List ℕ) (closed : Bool) → IsTakenIn R IsAddedReply stream kept a b (Ok closed)
    → (certain : List ℕ) × IsCertain R stream certain kept closed × (b ≡ a ++ certain)
piece_pushed R stream kept a b closed x = (
  concat x.2.replies,
  record { heads = x.0; replies = x.2.replies; cut = x.1; each = x.2.each; certain_is = refl },
  pushed_all a x.2.replies b x.2.taken,
)

unchanged : {R : HeadOf → List ℕ → Type 0} {heads : List HeadOf} {fault : AnswerFault} {a b : List ℕ} → (some : AnswersSome R IsAddedReply heads fault a b)
    → b ≡ some.between
unchanged {R} {heads} {fault} {a} {b} some = elim some.stop [
  | inl lacks ↦ lacks.same
  | inr fails ↦ same_at fault some.between fails.reply b fails.failed
]

-- what it adds where memory ran out
pub piece_stopped : (R : HeadOf → List ℕ → Type 0) (stream kept a b : List ℕ) (fault : AnswerFault) → IsTakenIn R IsAddedReply stream kept a b (Err fault)
    → (some : List ℕ) × AreFirstReplies R stream some × (b ≡ a ++ some)
piece_stopped R stream kept a b fault x =
    let some = x.4 in (
      concat some.all.replies,
      first_answered stream x.1 x.2 x.3 some,
      unchanged some ∙ pushed_all a some.all.replies some.between some.all.taken,
    )

-- what the end of the stream adds
pub rest_pushed : (rest a b : List ℕ) (answered : Bool) → IsRestAnswered IsAddedReply rest a b (Ok answered)
    → (b ≡ a ++ last_reply rest) × (answered ≡ nat_lt 0 (length rest))
rest_pushed [] a b answered x = (x.1 ∙ sym (append-nil a), x.0)
rest_pushed (y ∷ rest) a b answered x = (x.1, x.0 ∙ grind (arith, nat_tests))

pub rest_kept_back : (rest a b : List ℕ) (fault : AnswerFault) → IsRestAnswered IsAddedReply rest a b (Err fault)
    → (nat_lt 0 (length rest) ≡ true) × (b ≡ a)
rest_kept_back rest a b fault x =
    let fails = failed_rest IsAddedReply rest a b fault x in
    let long : 0 < length rest = fails.some in (
      grind (arith, nat_tests, long),
      elim fails.stop [ inl lacks ↦ lacks.same | inr failed ↦ same_at fault a (last_reply rest) b failed ],
    )
