-- Numbers between bounds, and what operators make of them.
use Rattle.std.proofs.Common.{◌≡◌, ◌⊎◌, inl, inr, ℕ, zero, suc, Bool, Option, None, Some, List, sym, subst, arith}
use Rattle.std.specs.Prelude.{ℤ, pos, negsuc, ◌+ℤ◌, ◌-ℤ◌, ◌*ℤ◌, ◌≤ℤ◌, option_and_then, option_map, FitsSigned, IfSome, int_lt}
use Rattle.std.specs.Int.{int_max, int_min, w64}
use Rattle.std.proofs.lemmas.Bool.{cond_both}
use Rattle.std.proofs.lemmas.Int.{clamps, ints}
use Rattle.std.proofs.Math.IntN.{pred_ℤ-*ℤ, suc_ℤ-*ℤ, zero-*ℤ, *ℤ_comm}
use Rattle.block_summary.specs.declared.bounds.Bounds.{Bounds}
use Rattle.typed_trees.specs.declared.operator.ArithmeticOperator.{ArithmeticOperator}
use Rattle.typed_trees.specs.declared.operator.ArithmeticOperator.TheVariants.{Add, Sub, Mul, Div, Mod}
use Rattle.row_eval.specs.Outcome.{computed, operation}
use Rattle.number_kernels.specs.Lanes.{AreComputed, AreComputedFitting, LanesFit}
use Rattle.block_eval.specs.declared.bounded.Bounded.{Bounded}
use Rattle.block_eval.specs.Bounded.{joined_bounds, AreJoined}
use Rattle.block_eval.specs.Bounds.{bounds_of, difference_bounds, product_bounds, sum_bounds, AreFitting, Fit, IsBetween, LiesWithin, IsWithinKnown}
use Rattle.block_eval.specs.Lanes.{number_lane}

pub between-fits : (a b z : ℤ) → FitsSigned w64 a → FitsSigned w64 b → a ≤ℤ z → z ≤ℤ b → FitsSigned w64 z
between-fits a (pos b) (pos z) f g h k = record { sfits = omega (arith, ints, g.sfits, k) }
between-fits a (negsuc b) (pos z) f g h k = absurd (omega (arith, ints, k))
between-fits (pos a) b (negsuc z) f g h k = absurd (omega (arith, ints, h))
between-fits (negsuc a) b (negsuc z) f g h k = record { sfits = omega (arith, ints, f.sfits, h) }

sum-between : (l r : Bounds) (x y : ℤ) → IsBetween l x → IsBetween r y → IsBetween (sum_bounds l r) (x +ℤ y)
sum-between l r x y h k = (omega (arith, ints, h.0, k.0), omega (arith, ints, h.1, k.1))

difference-between : (l r : Bounds) (x y : ℤ) → IsBetween l x → IsBetween r y → IsBetween (difference_bounds l r) (x -ℤ y)
difference-between l r x y h k = (omega (arith, ints, h.0, k.1), omega (arith, ints, h.1, k.0))

-- ---- products

up : (k : ℕ) (a b : ℤ) → a ≤ℤ b → (pos k *ℤ a) ≤ℤ (pos k *ℤ b)
up zero a b h = omega (arith, ints, zero-*ℤ a, zero-*ℤ b)
up (suc k) a b h =
    let left : pos (suc k) *ℤ a ≡ (pos k *ℤ a) +ℤ a = suc_ℤ-*ℤ (pos k) a in
    let right : pos (suc k) *ℤ b ≡ (pos k *ℤ b) +ℤ b = suc_ℤ-*ℤ (pos k) b in
    omega (arith, ints, h, up k a b h, left, right)

down : (k : ℕ) (a b : ℤ) → a ≤ℤ b → (negsuc k *ℤ b) ≤ℤ (negsuc k *ℤ a)
down zero a b h =
    let left : negsuc 0 *ℤ a ≡ (pos 0 *ℤ a) -ℤ a = pred_ℤ-*ℤ (pos 0) a in
    let right : negsuc 0 *ℤ b ≡ (pos 0 *ℤ b) -ℤ b = pred_ℤ-*ℤ (pos 0) b in
    omega (arith, ints, h, left, right, zero-*ℤ a, zero-*ℤ b)
down (suc k) a b h =
    let left : negsuc (suc k) *ℤ a ≡ (negsuc k *ℤ a) -ℤ a = pred_ℤ-*ℤ (negsuc k) a in
    let right : negsuc (suc k) *ℤ b ≡ (negsuc k *ℤ b) -ℤ b = pred_ℤ-*ℤ (negsuc k) b in
    omega (arith, ints, h, down k a b h, left, right)

-- a number lies between two others, whichever of them is the lesser one
abbrev LiesBetween : ℤ → ℤ → ℤ → Type 0
LiesBetween a b z = ((a ≤ℤ z) × (z ≤ℤ b)) ⊎ ((b ≤ℤ z) × (z ≤ℤ a))

product-lies : (x a b z : ℤ) → a ≤ℤ z → z ≤ℤ b → LiesBetween (x *ℤ a) (x *ℤ b) (x *ℤ z)
product-lies (pos k) a b z h g = inl (up k a z h, up k z b g)
product-lies (negsuc k) a b z h g = inr (down k z b g, down k a z h)

lies-commuted : (x a b z : ℤ) → LiesBetween (x *ℤ a) (x *ℤ b) (x *ℤ z) → LiesBetween (a *ℤ x) (b *ℤ x) (z *ℤ x)
lies-commuted x a b z h =
    subst (λ m. LiesBetween (a *ℤ x) (b *ℤ x) m) (*ℤ_comm x z) (subst (λ m. LiesBetween (a *ℤ x) m (x *ℤ z)) (*ℤ_comm x b) (subst (λ m. LiesBetween m (x *ℤ b) (x *ℤ z)) (*ℤ_comm x a) h))

above : (m a b z : ℤ) → m ≤ℤ a → m ≤ℤ b → LiesBetween a b z → m ≤ℤ z
above m a b z h g (inl p) = omega (arith, ints, h, p.0)
above m a b z h g (inr p) = omega (arith, ints, g, p.0)

below : (m a b z : ℤ) → a ≤ℤ m → b ≤ℤ m → LiesBetween a b z → z ≤ℤ m
below m a b z h g (inl p) = omega (arith, ints, g, p.1)
below m a b z h g (inr p) = omega (arith, ints, h, p.1)

-- the four products of bounds lie between the least and the greatest of them
pub record AreCorners (b : Bounds) (w x y z : ℤ) : Type 0 where
  pub first : IsBetween b w
  pub second : IsBetween b x
  pub third : IsBetween b y
  pub fourth : IsBetween b z

pub corners : (l r : Bounds) → AreCorners (product_bounds l r) (l.least *ℤ r.least) (l.least *ℤ r.greatest) (l.greatest *ℤ r.least) (l.greatest *ℤ r.greatest)
corners l r = record {
  first = (omega (arith, ints, clamps), omega (arith, ints, clamps));
  second = (omega (arith, ints, clamps), omega (arith, ints, clamps));
  third = (omega (arith, ints, clamps), omega (arith, ints, clamps));
  fourth = (omega (arith, ints, clamps), omega (arith, ints, clamps));
}

product-between : (l r : Bounds) (x y : ℤ) → IsBetween l x → IsBetween r y → IsBetween (product_bounds l r) (x *ℤ y)
product-between l r x y h k =
    let at = corners l r in
    let least = (product_bounds l r).least in
    let greatest = (product_bounds l r).greatest in
    let low = lies-commuted r.least l.least l.greatest x (product-lies r.least l.least l.greatest x h.0 h.1) in
    let high = lies-commuted r.greatest l.least l.greatest x (product-lies r.greatest l.least l.greatest x h.0 h.1) in
    let here = product-lies x r.least r.greatest y k.0 k.1 in (
      above least (x *ℤ r.least) (x *ℤ r.greatest) (x *ℤ y)
          (above least (l.least *ℤ r.least) (l.greatest *ℤ r.least) (x *ℤ r.least) at.first.0 at.third.0 low)
          (above least (l.least *ℤ r.greatest) (l.greatest *ℤ r.greatest) (x *ℤ r.greatest) at.second.0 at.fourth.0 high) here,
      below greatest (x *ℤ r.least) (x *ℤ r.greatest) (x *ℤ y)
          (below greatest (l.least *ℤ r.least) (l.greatest *ℤ r.least) (x *ℤ r.least) at.first.1 at.third.1 low)
          (below greatest (l.least *ℤ r.greatest) (l.greatest *ℤ r.greatest) (x *ℤ r.greatest) at.second.1 at.fourth.1 high) here,
    )

-- where the bounds of products fit, so does each of the four products
pub corners-fit : (l r : Bounds) → Fit (product_bounds l r)
    → FitsSigned w64 (l.least *ℤ r.least) × FitsSigned w64 (l.least *ℤ r.greatest) × FitsSigned w64 (l.greatest *ℤ r.least) × FitsSigned w64 (l.greatest *ℤ r.greatest)
corners-fit l r fit =
    let at = corners l r in
    let least = (product_bounds l r).least in
    let greatest = (product_bounds l r).greatest in (
      between-fits least greatest _ fit.0 fit.1 at.first.0 at.first.1,
      between-fits least greatest _ fit.0 fit.1 at.second.0 at.second.1,
      between-fits least greatest _ fit.0 fit.1 at.third.0 at.third.1,
      between-fits least greatest _ fit.0 fit.1 at.fourth.0 at.fourth.1,
    )

min_is : (P : ℤ → Type 0) (x y : ℤ) → P x → P y → P (int_min x y)
min_is P x y px py = cond_both (int_lt y x) y x P (λ _. py) (λ _. px)

max_is : (P : ℤ → Type 0) (x y : ℤ) → P x → P y → P (int_max x y)
max_is P x y px py = cond_both (int_lt y x) x y P (λ _. px) (λ _. py)

-- where each of the four products fits, so do the bounds of products
pub products-fit : (l r : Bounds) → FitsSigned w64 (l.least *ℤ r.least) → FitsSigned w64 (l.least *ℤ r.greatest) → FitsSigned w64 (l.greatest *ℤ r.least) → FitsSigned w64 (l.greatest *ℤ r.greatest)
    → Fit (product_bounds l r)
products-fit l r w x y z =
    let fits = FitsSigned w64 in
    (min_is fits _ _ (min_is fits _ _ w x) (min_is fits _ _ y z), max_is fits _ _ (max_is fits _ _ w x) (max_is fits _ _ y z))

-- ---- lanes

-- what is made of numbers between bounds lies between the bounds that fit, and fits
abbrev IsMadeWithin : Bounds → ℤ → Type 0
IsMadeWithin b n = IsBetween b n × FitsSigned w64 n

made : (wide b : Bounds) (n : ℤ) → Fit wide → b ≡ wide → IsBetween wide n → IsMadeWithin b n
made wide b n fit is h = (subst (λ w. IsBetween w n) (sym is) h, between-fits wide.least wide.greatest n fit.0 fit.1 h.0 h.1)

operation-within : (o : ArithmeticOperator) (l r b : Bounds) (x y : ℤ) → AreFitting (bounds_of o l r) (Some b) → IsBetween l x → IsBetween r y → IfSome (operation o x y) (IsMadeWithin b)
operation-within Add l r b x y h p q = made (sum_bounds l r) b (x +ℤ y) h.0 h.1 (sum-between l r x y p q)
operation-within Sub l r b x y h p q = made (difference_bounds l r) b (x -ℤ y) h.0 h.1 (difference-between l r x y p q)
operation-within Mul l r b x y h p q = made (product_bounds l r) b (x *ℤ y) h.0 h.1 (product-between l r x y p q)
operation-within Div l r b x y h p q = absurd (cc)
operation-within Mod l r b x y h p q = absurd (cc)

result-fits : (b : Bounds) (m : Option ℤ) → IfSome m (IsMadeWithin b) → IfSome m (FitsSigned w64)
result-fits b None h = tt
result-fits b (Some n) h = h.1

result-within : (b : Bounds) (m z : Option ℤ) → option_map (λ n. Some n) m ≡ Some z → IfSome m (IsMadeWithin b) → LiesWithin b z
result-within b None z e h = absurd (cc)
result-within b (Some n) None e h = tt
result-within b (Some n) (Some k) e h = let is : n ≡ k = cc in subst (IsBetween b) is h.0

null-within : (b : Bounds) (z : Option ℤ) → Some None ≡ Some z → LiesWithin b z
null-within b None e = tt
null-within b (Some n) e = absurd (cc)

-- the bounds that are known of two sides
abbrev bounds_between : ArithmeticOperator → Option Bounds → Option Bounds → Option Bounds
bounds_between o l r = option_and_then (λ a. option_and_then (λ c. bounds_of o a c) r) l

lanes-fit : (o : ArithmeticOperator) (l r : Option Bounds) (b : Bounds) (x y : Option ℤ) → AreFitting (bounds_between o l r) (Some b) → IsWithinKnown l x → IsWithinKnown r y → LanesFit o x y
lanes-fit o l r b None y h p q = tt
lanes-fit o l r b (Some x) None h p q = tt
lanes-fit o None r b (Some x) (Some y) h p q = absurd (cc)
lanes-fit o (Some a) None b (Some x) (Some y) h p q = absurd (cc)
lanes-fit o (Some a) (Some c) b (Some x) (Some y) h p q = result-fits b (operation o x y) (operation-within o a c b x y h p q)

lane-within : (o : ArithmeticOperator) (l r : Option Bounds) (b : Bounds) (x y z : Option ℤ) → AreFitting (bounds_between o l r) (Some b) → IsWithinKnown l x → IsWithinKnown r y
    → computed o x y ≡ Some z → LiesWithin b z
lane-within o l r b None y z h p q e = null-within b z e
lane-within o l r b (Some x) None z h p q e = null-within b z e
lane-within o None r b (Some x) (Some y) z h p q e = absurd (cc)
lane-within o (Some a) None b (Some x) (Some y) z h p q e = absurd (cc)
lane-within o (Some a) (Some c) b (Some x) (Some y) z h p q e = result-within b (operation o x y) z e (operation-within o a c b x y h p q)

-- vectors that are joined where what is made fits, since its bounds do
pub fitting-joined : (o : ArithmeticOperator) (left right v : Bounded) (wanted : List Bool) (b : Bounds) → v.bounds ≡ Some b → AreFitting (joined_bounds o left right) (Some b)
    → AreComputedFitting o left.numbers right.numbers wanted v.numbers → AreJoined o left right wanted v
fitting-joined o left right v wanted b is fitting made = record {
  each = λ row h p q. made.each row h (lanes-fit o left.bounds right.bounds b (number_lane left.numbers row) (number_lane right.numbers row) fitting p q);
  within = λ row h p q.
      let e = made.each row h (lanes-fit o left.bounds right.bounds b (number_lane left.numbers row) (number_lane right.numbers row) fitting p q) in
      subst (λ k. IsWithinKnown k (number_lane v.numbers row)) (sym is)
      (lane-within o left.bounds right.bounds b (number_lane left.numbers row) (number_lane right.numbers row) (number_lane v.numbers row) fitting p q e);
  bounds = subst (AreFitting (joined_bounds o left right)) (sym is) fitting;
  long = made.long;
}

-- vectors that are joined with a check
pub checked-joined : (o : ArithmeticOperator) (left right v : Bounded) (wanted : List Bool) → v.bounds ≡ None → AreFitting (joined_bounds o left right) None
    → AreComputed o left.numbers right.numbers wanted v.numbers → AreJoined o left right wanted v
checked-joined o left right v wanted is fitting made = record {
  each = λ row h p q. made.each row h;
  within = λ row h p q. subst (λ k. IsWithinKnown k (number_lane v.numbers row)) (sym is) tt;
  bounds = subst (AreFitting (joined_bounds o left right)) (sym is) fitting;
  long = made.long;
}
