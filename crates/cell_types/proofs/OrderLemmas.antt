-- Cells lie to one another as their numbers do.
use Rattle.std.proofs.Common.{◌≡◌, ℕ, ◌<◌, inl, inr, refl, sym, ap, ◌∙◌, arith}
use Rattle.std.specs.Prelude.{ℤ, ◌<ℤ◌}
use Rattle.std.specs.Cmp.{int_cmp_is}
use Rattle.std.specs.Ordering.{MatchOrdering, int_cmp, nat_cmp, ordering_then}
use Rattle.std.specs.declared.cmp.Ordering.{Ordering}
use Rattle.std.specs.declared.cmp.Ordering.TheVariants.{Less, Equal, Greater}
use Rattle.std.proofs.lemmas.Cmp.{int_ranked, ranked}
use Rattle.std.proofs.lemmas.Int.{ints}
use Rattle.cell_types.specs.Value.{date, value_cmp}
use Rattle.cell_types.specs.Kind.{day_number, typed_cell, IsNumberOf}
use Rattle.cell_types.specs.declared.kind.NumberKind.{NumberKind}
use Rattle.cell_types.specs.declared.kind.NumberKind.TheVariants.{Integer, Decimal, Boolean, Date}
use Rattle.cell_types.proofs.KindLemmas.{date-place, number-parts, typed_cell-date, IsPlace}

-- ---- days

day_order : (m d n e : ℕ) (y z : ℤ) → IsPlace m d → IsPlace n e → y ≡ z → m ≡ n → (r : Ordering) → MatchOrdering r (d < e) (d ≡ e) (e < d)
    → MatchOrdering r (day_number y m d <ℤ day_number z n e) (day_number y m d ≡ day_number z n e) (day_number z n e <ℤ day_number y m d)
day_order m d n e y z p q f g Less h = omega (arith, ints)
day_order m d n e y z p q f g Equal h = omega (arith, ints)
day_order m d n e y z p q f g Greater h = omega (arith, ints)

month_order : (m d n e : ℕ) (y z : ℤ) → IsPlace m d → IsPlace n e → y ≡ z → (r : Ordering) → MatchOrdering r (m < n) (m ≡ n) (n < m)
    → MatchOrdering (ordering_then r (nat_cmp d e)) (day_number y m d <ℤ day_number z n e) (day_number y m d ≡ day_number z n e) (day_number z n e <ℤ day_number y m d)
month_order m d n e y z p q f Less h = omega (arith, ints, p.day_below, q.day_below)
month_order m d n e y z p q f Equal h = day_order m d n e y z p q f h (nat_cmp d e) (ranked d e _ refl)
month_order m d n e y z p q f Greater h = omega (arith, ints, p.day_below, q.day_below)

year_order : (m d n e : ℕ) (y z : ℤ) → IsPlace m d → IsPlace n e → (r : Ordering) → MatchOrdering r (y <ℤ z) (y ≡ z) (z <ℤ y)
    → MatchOrdering (ordering_then r (ordering_then (nat_cmp m n) (nat_cmp d e))) (day_number y m d <ℤ day_number z n e) (day_number y m d ≡ day_number z n e)
    (day_number z n e <ℤ day_number y m d)
year_order m d n e y z p q Less h = omega (arith, ints, p.month_below, p.day_below)
year_order m d n e y z p q Equal h = month_order m d n e y z p q h (nat_cmp m n) (ranked m n _ refl)
year_order m d n e y z p q Greater h = omega (arith, ints, q.month_below, q.day_below)

date_order : (m d n e : ℕ) (y z : ℤ) → IsPlace m d → IsPlace n e → value_cmp (date y m d) (date z n e) ≡ int_cmp (day_number y m d) (day_number z n e)
unfolding value_cmp
date_order m d n e y z p q = int_cmp_is _ _ _ (year_order m d n e y z p q (int_cmp y z) (int_ranked y z _ refl))

pub typed-order : (kind : NumberKind) (a b : ℤ) → IsNumberOf kind a → IsNumberOf kind b → value_cmp (typed_cell kind a) (typed_cell kind b) ≡ int_cmp a b
unfolding value_cmp
typed-order Integer a b p q = refl
typed-order Decimal a b p q = refl
typed-order Boolean a b (inl e) (inl f) = rw (e, f) refl
typed-order Boolean a b (inl e) (inr f) = rw (e, f) refl
typed-order Boolean a b (inr e) (inl f) = rw (e, f) refl
typed-order Boolean a b (inr e) (inr f) = rw (e, f) refl
typed-order Date a b p q =
    let place_p = date-place p.0 p.1 p.2 p.3 in
    let place_q = date-place q.0 q.1 q.2 q.3 in
    ap (λ v. value_cmp v (typed_cell Date b)) (typed_cell-date a p.0 p.1 p.2 (number-parts a p.0 p.1 p.2 place_p p.4))
    ∙ ap (value_cmp (date p.0 p.1 p.2)) (typed_cell-date b q.0 q.1 q.2 (number-parts b q.0 q.1 q.2 place_q q.4))
    ∙ date_order p.1 p.2 q.1 q.2 p.0 q.0 place_p place_q
    ∙ ap (λ x. int_cmp x (day_number q.0 q.1 q.2)) (sym p.4)
    ∙ ap (int_cmp a) (sym q.4)
