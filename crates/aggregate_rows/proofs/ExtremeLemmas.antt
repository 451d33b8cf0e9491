-- The least and the greatest of values and of more: one of two values, where a test tells which.
use Rattle.std.proofs.Common.{◌≡◌, Bool, true, false, cond, inl, inr, refl, sym, ap, ◌∙◌}
use Rattle.std.specs.declared.cmp.Ordering.{Ordering}
use Rattle.std.specs.declared.cmp.Ordering.TheVariants.{Less, Equal, Greater}
use Rattle.std.specs.Cmp.{IsTotalOrder}
use Rattle.std.specs.Ordering.{is_lt, ordering_reverse}
use Rattle.std.proofs.lemmas.Bool.{cases_Bool, false≢true}

abbrev pub pick : {X : Type 0} → (X → X → Bool) → X → X → X
pick wins v w = cond (wins w v) w v

module _ {X : Type 0} (wins : X → X → Bool) (trans : (u v w : X) → wins w v ≡ true → wins v u ≡ true → wins w u ≡ true)
    (lost : (u v w : X) → wins w v ≡ false → wins v u ≡ false → wins w u ≡ false) where
  pub picked : (u v w : X) → pick wins u (pick wins v w) ≡ pick wins (pick wins u v) w
  picked u v w = elim (cases_Bool (wins w v)) [
    | inl e ↦ elim (cases_Bool (wins v u)) [
      | inl f ↦ let t = trans u v w e f in rw (e, f, t, e) refl
      | inr f ↦ rw (e, f) refl
    ]
    | inr e ↦ elim (cases_Bool (wins v u)) [
      | inl f ↦ rw (e, f, e) refl
      | inr f ↦ let t = lost u v w e f in rw (e, f, t) refl
    ]
  ]

lt_less : (r : Ordering) → is_lt r ≡ true → r ≡ Less
lt_less Less e = refl
lt_less r e = absurd (false≢true e)

module _ {X : Type 0} (cmp : X → X → Ordering) (total : IsTotalOrder cmp) where
  pub below_trans : (x y z : X) → is_lt (cmp x y) ≡ true → is_lt (cmp y z) ≡ true → is_lt (cmp x z) ≡ true
  below_trans x y z e f = ap is_lt (total.trans x y z (lt_less (cmp x y) e) (lt_less (cmp y z) f))

  -- where x is not below y, and y not below z, x is not below z
  pub not_below : (x y z : X) → is_lt (cmp x y) ≡ false → is_lt (cmp y z) ≡ false → is_lt (cmp x z) ≡ false
  not_below x y z e f = by (cmp x y) refl
    where
      turned : cmp x y ≡ Greater → cmp y x ≡ Less
      turned g = total.antisymm y x ∙ ap ordering_reverse g

      by : (r : Ordering) → cmp x y ≡ r → is_lt (cmp x z) ≡ false
      by Less g = absurd (false≢true (sym e ∙ ap is_lt g))
      by Equal g = ap is_lt (total.congr x y z g) ∙ f
      by Greater g = elim (cases_Bool (is_lt (cmp x z))) [
        | inl t ↦ absurd (false≢true (sym f ∙ below_trans y x z (ap is_lt (turned g)) t))
        | inr t ↦ t
      ]
