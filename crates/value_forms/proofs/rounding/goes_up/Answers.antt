use Rattle.std.proofs.Common.{◌%◌, ◌==◌, List, ℕ, nat_lt, sym, subst, if◌then◌else◌}
use Rattle.std.specs.Str.Parse.{AllDigits}
use Rattle.std.proofs.lemmas.List.{nil_from_length}
use Rattle.value_forms.proofs.RoundingLemmas.{IsNearest, beside, half_by, more_than_half, nearest_alone}
use Rattle.value_forms.proofs.rounding.goes_up.Goals as goal

pub returns-in_default : goal.returns-in_default
returns-in_default c =
    let none = nil_from_length c.args.tail.now c.in_default.ensures.cases in subst (λ (ds : List ℕ). IsNearest c.args.number ds 0) (sym none) (nearest_alone c.args.number)

pub returns-then-not-are_zeros : goal.returns-then-not-are_zeros
returns-then-not-are_zeros c =
    let tail = c.in-Some.ensures.cases.0 in
    let up = more_than_half c.args.number c.in-Some.first.now c.in-Some.rest.now (subst (AllDigits 10) tail c.requires) c.if-first-eq53.true (sym c.if-not-are_zeros.ensures) in
    rw c.if-not-are_zeros.true (subst (λ (ds : List ℕ). IsNearest c.args.number ds 1) (sym tail) up)

pub returns-else-not-are_zeros : goal.returns-else-not-are_zeros
returns-else-not-are_zeros c =
    let tail = c.in-Some.ensures.cases.0 in
    let up = half_by c.args.number c.in-Some.first.now c.in-Some.rest.now (subst (AllDigits 10) tail c.requires) c.if-first-eq53.true (sym c.if-not-are_zeros.ensures) in
    subst (λ (ds : List ℕ). IsNearest c.args.number ds (if c.args.number % 2 == 1 then 1 else 0)) (sym tail) up

pub returns-else-first-eq53 : goal.returns-else-first-eq53
returns-else-first-eq53 c =
    let tail = c.in-Some.ensures.cases.0 in
    let up = beside c.args.number c.in-Some.first.now c.in-Some.rest.now (subst (AllDigits 10) tail c.requires) c.if-first-eq53.false in
    subst (λ (ds : List ℕ). IsNearest c.args.number ds (if nat_lt 53 c.in-Some.first.now then 1 else 0)) (sym tail) up
