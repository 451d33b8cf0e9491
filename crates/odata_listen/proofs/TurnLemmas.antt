-- Visits and turns, one after another.
use Rattle.std.proofs.Common.{◌≡◌, ◌+◌, ◌<◌, ◌≤◌, ℕ, suc, Bool, true, false, arith, refl, sym, ap, subst, ◌∙◌, inl, inr}
use mathlib.Core.Bool.{beq}
use Rattle.std.specs.Prelude.{◌==◌, MatchBool, not}
use Rattle.std.proofs.lemmas.Bool.Decides.{eqb_tells}
use Rattle.listen_sockets.specs.Sockets.{is_heavy_at}
use Rattle.service_log.specs.declared.work.Work.{Work}
use Rattle.service_log.specs.Work.{work_after_turn}
use Rattle.odata_listen.specs.declared.limits.Terms.{Terms}
use Rattle.odata_listen.specs.Serving.{Frees}
use Rattle.odata_listen.specs.Turns.{AreVisits, HasTurn, HasTurnBy, HasTurnOf, IsVisited, Served, Turns, Visited, turn_at, turn_over}

pub visits_more : (visits : ℕ) (terms : Terms) (place : ℕ) (a b c : Served) → AreVisits visits terms place a b → Visited terms place b c → AreVisits (visits + 1) terms place a c
visits_more visits terms place a b c v w = let e : visits + 1 ≡ suc visits = omega arith in rw e (b, v, w)

pub turns_more : (turns : ℕ) (heavy kind : Bool) (terms : Terms) (places there from at next : ℕ) (a b c : Served) → Turns turns heavy terms places from at a b
    → kind ≡ heavy → there ≡ places → HasTurnOf kind terms (turn_at there at) b c → next ≡ turn_at there at + 1
    → Turns (turns + 1) heavy terms places from next a c
turns_more turns heavy kind terms places there from at next a b c t same whole turn on =
    let P : Bool → Type 0 = λ k. HasTurnOf k terms (turn_at places at) b c in
    let Q : ℕ → Type 0 = λ n. HasTurnOf kind terms (turn_at n at) b c in
    let e : turns + 1 ≡ suc turns = omega arith in
    rw e (at, b, t, subst P same (subst Q whole turn), on ∙ ap (λ (n : ℕ). turn_at n at + 1) whole)

-- a place has its turn where it is of those that have theirs
turn_there : (is heavy : Bool) (T E : Type 0) → not (beq is heavy) ≡ false → T → MatchBool is (MatchBool heavy T E) (MatchBool heavy E T)
turn_there true true T E e t = t
turn_there true false T E e t = absurd (cc e)
turn_there false true T E e t = absurd (cc e)
turn_there false false T E e t = t

turn_elsewhere : (is heavy : Bool) (T E : Type 0) → not (beq is heavy) ≡ true → E → MatchBool is (MatchBool heavy T E) (MatchBool heavy E T)
turn_elsewhere true true T E n e = absurd (cc n)
turn_elsewhere true false T E n e = e
turn_elsewhere false true T E n e = e
turn_elsewhere false false T E n e = absurd (cc n)

pub has_turn : (told heavy : Bool) (terms : Terms) (place at : ℕ) (a b : Served) → told ≡ is_heavy_at a.server.sockets.wires.items place → not (beq told heavy) ≡ false
    → HasTurn terms place a b → place ≡ at → HasTurnOf heavy terms at a b
has_turn told heavy terms place at a b is same t there =
    let P : ℕ → Type 0 = λ k. HasTurnOf heavy terms k a b in
    let Q : Bool → Type 0 = λ x. MatchBool x (MatchBool heavy (HasTurn terms place a b) (b ≡ a)) (MatchBool heavy (b ≡ a) (HasTurn terms place a b)) in
    subst P there (subst Q is (turn_there told heavy (HasTurn terms place a b) (b ≡ a) same t))

pub has_none : (told heavy : Bool) (terms : Terms) (place at : ℕ) (a : Served) → told ≡ is_heavy_at a.server.sockets.wires.items place → not (beq told heavy) ≡ true
    → place ≡ at → HasTurnOf heavy terms at a a
has_none told heavy terms place at a is other there =
    let P : ℕ → Type 0 = λ k. HasTurnOf heavy terms k a a in
    let Q : Bool → Type 0 = λ x. MatchBool x (MatchBool heavy (HasTurn terms place a a) (a ≡ a)) (MatchBool heavy (a ≡ a) (HasTurn terms place a a)) in
    subst P there (subst Q is (turn_elsewhere told heavy (HasTurn terms place a a) (a ≡ a) other refl))

end_by : (awake lost : Bool) (terms : Terms) (place : ℕ) (a b : Served) → awake ≡ true → lost ≡ true → Frees place a.server b.server → b.work ≡ a.work
    → HasTurnBy awake lost terms place a b
end_by true true terms place a b w l f e = (f, e)
end_by true false terms place a b w l f e = absurd (cc l)
end_by false lost terms place a b w l f e = absurd (cc w)

-- a place that is awake is given back where its connection is lost
pub has_end : (awake lost told said : Bool) (terms : Terms) (place : ℕ) (a b : Served) → told ≡ awake → told ≡ true → said ≡ lost → said ≡ true
    → Frees place a.server b.server → b.work ≡ a.work → HasTurnBy awake lost terms place a b
has_end awake lost told said terms place a b t n s l f e = end_by awake lost terms place a b (sym t ∙ n) (sym s ∙ l) f e

visits_by : (awake lost : Bool) (terms : Terms) (place : ℕ) (a m b : Served) → awake ≡ true → lost ≡ false → IsVisited terms place a m → b ≡ turn_over m
    → HasTurnBy awake lost terms place a b
visits_by true false terms place a m b w l v e = (m, v, e)
visits_by true true terms place a m b w l v e = absurd (cc l)
visits_by false lost terms place a m b w l v e = absurd (cc w)

-- and else it is visited, until its turn is over
pub has_visits : (awake lost told said : Bool) (terms : Terms) (place : ℕ) (a m b : Served) → told ≡ awake → told ≡ true → said ≡ lost → said ≡ false
    → IsVisited terms place a m → b ≡ turn_over m → HasTurnBy awake lost terms place a b
has_visits awake lost told said terms place a m b t n s l v e = visits_by awake lost terms place a m b (sym t ∙ n) (sym s ∙ l) v e

pub ends_turn : (s : Served) (work : Work) → work ≡ work_after_turn s.work → record s { work = work } ≡ turn_over s
ends_turn s work e = ap (λ (w : Work). record s { work = w }) e

-- those for whom much was done have their turns once all others had theirs
pub heavy_after : (left : ℕ) (T E : Type 0) → left ≤ 0 → T → MatchBool (left == 0) T E
heavy_after left T E h t = elim (eqb_tells left 0) [ inl x ↦ rw x.0 t | inr x ↦ absurd (x.1 (omega (arith, h))) ]

pub heavy_not_yet : (left : ℕ) (T E : Type 0) → 0 < left → E → MatchBool (left == 0) T E
heavy_not_yet left T E h e = elim (eqb_tells left 0) [ inl x ↦ absurd (omega (arith, h, x.1)) | inr x ↦ rw x.0 e ]
