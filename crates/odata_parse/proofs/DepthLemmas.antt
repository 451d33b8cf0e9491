-- Counting along tokens.
use Rattle.std.proofs.Common.{◌≡◌, ℕ, zero, suc, ◌+◌, ◌-◌, ◌<◌, ◌≤◌, List, [], ◌∷◌, take, drop, sym, subst, arith}
use Rattle.odata_lex.specs.Token.{TokenOf}
use Rattle.odata_parse.specs.declared.tree.UnaryOperator.{UnaryOperator}
use Rattle.odata_parse.specs.Depth.{OpensTooMany, RepeatsOperators, BeginsWithOperators, no_operators, more_operators, open_behind, open_groups_after}
use Rattle.odata_parse.specs.Expression.{IsUnaryOperator}

-- at some place from here on, with n open before, more than 32 are open
pub record OpensFrom (n : ℕ) (tokens : List TokenOf) : Type 0 where
  pub place : ℕ
  pub many : 32 < open_groups_after n (take place tokens)

-- the whole opens too many exactly where it does from here on
pub record OpensLater (whole rest : List TokenOf) (n : ℕ) : Type 0 where
  pub few : n ≤ 32
  pub forth : OpensTooMany whole → OpensFrom n rest
  pub back : OpensFrom n rest → OpensTooMany whole

pub OpensLater-init : (whole : List TokenOf) → OpensLater whole whole 0
OpensLater-init whole = record {
  few = omega arith;
  forth = λ o. record { place = o.place; many = o.many };
  back = λ o. record { place = o.place; many = o.many };
}

opens_step : (n : ℕ) (t : TokenOf) (tokens : List TokenOf) (k : ℕ) → n ≤ 32 → 32 < open_groups_after n (take k (t ∷ tokens)) → OpensFrom (open_behind n t.kind) tokens
opens_step n t tokens zero h many = absurd (omega arith)
opens_step n t tokens (suc k) h many = record { place = k; many = many }

pub OpensLater-more : (whole rest tokens : List TokenOf) (n m : ℕ) (t : TokenOf) → OpensLater whole rest n → rest ≡ t ∷ tokens → m ≡ open_behind n t.kind → m ≤ 32 → OpensLater whole tokens m
OpensLater-more whole rest tokens n m t o is step few = record {
  few = few;
  forth = λ w. let f = subst (λ (s : List TokenOf). OpensFrom n s) is (o.forth w) in subst (λ (k : ℕ). OpensFrom k tokens) (sym step) (opens_step n t tokens f.place o.few f.many);
  back = λ f. let g = subst (λ (k : ℕ). OpensFrom k tokens) step f in o.back (subst (λ (s : List TokenOf). OpensFrom n s) (sym is) (record { place = suc g.place; many = g.many }));
}

pub OpensLater-now : (whole rest tokens : List TokenOf) (n m : ℕ) (t : TokenOf) → OpensLater whole rest n → rest ≡ t ∷ tokens → m ≡ open_behind n t.kind → 32 < m → OpensTooMany whole
OpensLater-now whole rest tokens n m t o is step many = o.back (subst (λ (s : List TokenOf). OpensFrom n s) (sym is) (record { place = 1; many = rw step at many }))

nothing_opens : (n k : ℕ) → n ≤ 32 → 32 < open_groups_after n (take k []) → ⊥
nothing_opens n zero h many = omega arith
nothing_opens n (suc k) h many = omega arith

pub OpensLater-end : (whole rest : List TokenOf) (n : ℕ) → OpensLater whole rest n → rest ≡ [] → OpensTooMany whole → ⊥
OpensLater-end whole rest n o is w = let f = subst (λ (s : List TokenOf). OpensFrom n s) is (o.forth w) in nothing_opens n f.place o.few f.many

-- after n operators the rest begins with enough, or they stand later
pub data RepeatsFrom (n : ℕ) (tokens : List TokenOf) : Type 0 where
  repeats_now : BeginsWithOperators (9 - n) tokens → RepeatsFrom n tokens
  repeats_later : RepeatsOperators tokens → RepeatsFrom n tokens

pub record RepeatsLater (whole rest : List TokenOf) (n : ℕ) : Type 0 where
  pub few : n ≤ 8
  pub forth : RepeatsOperators whole → RepeatsFrom n rest
  pub back : RepeatsFrom n rest → RepeatsOperators whole

here_repeats : (tokens : List TokenOf) → RepeatsFrom 0 tokens → RepeatsOperators tokens
here_repeats tokens (repeats_now b) = record { place = 0; run = b }
here_repeats tokens (repeats_later r) = r

pub RepeatsLater-init : (whole : List TokenOf) → RepeatsLater whole whole 0
RepeatsLater-init whole = record {
  few = omega arith;
  forth = λ r. repeats_later r;
  back = λ r. here_repeats whole r;
}

-- fewer operators stand first where more do
fewer : {n : ℕ} {tokens : List TokenOf} (m : ℕ) → m ≤ n → BeginsWithOperators n tokens → BeginsWithOperators m tokens
fewer zero h b = no_operators
fewer (suc m) h no_operators = absurd (omega arith)
fewer (suc m) h (more_operators o k b) = more_operators o k (fewer m (omega arith) b)

rest_of_run : {n : ℕ} {t : TokenOf} {tokens : List TokenOf} → BeginsWithOperators (suc n) (t ∷ tokens) → BeginsWithOperators n tokens
rest_of_run (more_operators o k b) = b

no_run : {n : ℕ} {t : TokenOf} {tokens : List TokenOf} → ((o : UnaryOperator) → ¬ (IsUnaryOperator o t)) → BeginsWithOperators (suc n) (t ∷ tokens) → ⊥
no_run none (more_operators o k b) = none o k

later_place : (t : TokenOf) (tokens : List TokenOf) → RepeatsOperators tokens → RepeatsOperators (t ∷ tokens)
later_place t tokens r = record { place = suc r.place; run = r.run }

run_at : (n : ℕ) (t : TokenOf) (tokens : List TokenOf) (k : ℕ) → n < 8 → BeginsWithOperators 9 (drop k (t ∷ tokens)) → RepeatsFrom (n + 1) tokens
run_at n t tokens zero h b = repeats_now (fewer (9 - (n + 1)) (omega arith) (rest_of_run b))
run_at n t tokens (suc k) h b = repeats_later (record { place = k; run = b })

on_operator : (n : ℕ) (t : TokenOf) (tokens : List TokenOf) → n < 8 → RepeatsFrom n (t ∷ tokens) → RepeatsFrom (n + 1) tokens
on_operator n t tokens h (repeats_now b) = repeats_now (fewer (9 - (n + 1)) (omega arith) (rest_of_run {n = 8 - n} (fewer (suc (8 - n)) (omega arith) b)))
on_operator n t tokens h (repeats_later r) = run_at n t tokens r.place h r.run

off_at : (t : TokenOf) (tokens : List TokenOf) (k : ℕ) → ((o : UnaryOperator) → ¬ (IsUnaryOperator o t)) → BeginsWithOperators 9 (drop k (t ∷ tokens)) → RepeatsFrom 0 tokens
off_at t tokens zero none b = absurd (no_run none b)
off_at t tokens (suc k) none b = repeats_later (record { place = k; run = b })

off_operator : (n : ℕ) (t : TokenOf) (tokens : List TokenOf) → n ≤ 8 → ((o : UnaryOperator) → ¬ (IsUnaryOperator o t)) → RepeatsFrom n (t ∷ tokens) → RepeatsFrom 0 tokens
off_operator n t tokens h none (repeats_now b) = absurd (no_run {n = 8 - n} none (fewer (suc (8 - n)) (omega arith) b))
off_operator n t tokens h none (repeats_later r) = off_at t tokens r.place none r.run

back_operator : (n : ℕ) (t : TokenOf) (tokens : List TokenOf) (o : UnaryOperator) → n ≤ 8 → IsUnaryOperator o t → RepeatsFrom (n + 1) tokens → RepeatsFrom n (t ∷ tokens)
back_operator n t tokens o h k (repeats_now b) = repeats_now (fewer (9 - n) (omega arith) (more_operators {n = 9 - (n + 1)} o k b))
back_operator n t tokens o h k (repeats_later r) = repeats_later (later_place t tokens r)

pub RepeatsLater-on : (whole rest tokens : List TokenOf) (n : ℕ) (t : TokenOf) (o : UnaryOperator) → RepeatsLater whole rest n → rest ≡ t ∷ tokens → IsUnaryOperator o t → n < 8 → RepeatsLater whole tokens (n + 1)
RepeatsLater-on whole rest tokens n t o r is k few = record {
  few = omega arith;
  forth = λ w. on_operator n t tokens few (subst (λ (s : List TokenOf). RepeatsFrom n s) is (r.forth w));
  back = λ f. r.back (subst (λ (s : List TokenOf). RepeatsFrom n s) (sym is) (back_operator n t tokens o r.few k f));
}

pub RepeatsLater-off : (whole rest tokens : List TokenOf) (n : ℕ) (t : TokenOf) → RepeatsLater whole rest n → rest ≡ t ∷ tokens → ((o : UnaryOperator) → ¬ (IsUnaryOperator o t)) → RepeatsLater whole tokens 0
RepeatsLater-off whole rest tokens n t r is none = record {
  few = omega arith;
  forth = λ w. off_operator n t tokens r.few none (subst (λ (s : List TokenOf). RepeatsFrom n s) is (r.forth w));
  back = λ f. r.back (subst (λ (s : List TokenOf). RepeatsFrom n s) (sym is) (repeats_later (later_place t tokens (here_repeats tokens f))));
}

pub RepeatsLater-now : (whole rest tokens : List TokenOf) (n : ℕ) (t : TokenOf) (o : UnaryOperator) → RepeatsLater whole rest n → rest ≡ t ∷ tokens → IsUnaryOperator o t → n ≡ 8 → RepeatsOperators whole
RepeatsLater-now whole rest tokens n t o r is k all = r.back (subst (λ (s : List TokenOf). RepeatsFrom n s) (sym is) (back_operator n t tokens o r.few k (repeats_now (fewer (9 - (n + 1)) (omega arith) (no_operators)))))

no_run_in_nothing : (k : ℕ) → BeginsWithOperators 9 (drop k []) → ⊥
no_run_in_nothing zero b = elim b [ ]
no_run_in_nothing (suc k) b = elim b [ ]

nothing_begins : {n : ℕ} → BeginsWithOperators (suc n) [] → ⊥
nothing_begins b = elim b [ ]

nothing_repeats : (n : ℕ) → n ≤ 8 → RepeatsFrom n [] → ⊥
nothing_repeats n h (repeats_now b) = nothing_begins (fewer (suc (8 - n)) (omega arith) b)
nothing_repeats n h (repeats_later r) = no_run_in_nothing r.place r.run

pub RepeatsLater-end : (whole rest : List TokenOf) (n : ℕ) → RepeatsLater whole rest n → rest ≡ [] → RepeatsOperators whole → ⊥
RepeatsLater-end whole rest n r is w = nothing_repeats n r.few (subst (λ (s : List TokenOf). RepeatsFrom n s) is (r.forth w))
