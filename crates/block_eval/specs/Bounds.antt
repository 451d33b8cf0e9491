-- Two numbers between which others lie, and what operators make of those.
use Rattle.std.specs.Prelude.{◌≡◌, ℤ, ◌+ℤ◌, ◌-ℤ◌, ◌*ℤ◌, ◌≤ℤ◌, Option, None, Some, FitsSigned, IfSome, MatchOption, SomeIff}
use Rattle.std.specs.Int.{int_max, int_min, w64}
use Rattle.block_summary.specs.declared.bounds.Bounds.{Bounds}
use Rattle.typed_trees.specs.declared.operator.ArithmeticOperator.{ArithmeticOperator}
use Rattle.typed_trees.specs.declared.operator.ArithmeticOperator.TheVariants.{Add, Sub, Mul, Div, Mod}

abbrev pub IsBetween : Bounds → ℤ → Type 0
IsBetween b n = (b.least ≤ℤ n) × (n ≤ℤ b.greatest)

-- a number lies between them, or there is none
abbrev pub LiesWithin : Bounds → Option ℤ → Type 0
LiesWithin b n = IfSome n (IsBetween b)

-- and so it is for bounds that are known
abbrev pub IsWithinKnown : Option Bounds → Option ℤ → Type 0
IsWithinKnown known n = IfSome known (λ b. LiesWithin b n)

-- the sums, the differences and the products of numbers between bounds lie between these
abbrev pub sum_bounds : Bounds → Bounds → Bounds
sum_bounds l r = record { least = l.least +ℤ r.least; greatest = l.greatest +ℤ r.greatest }

abbrev pub difference_bounds : Bounds → Bounds → Bounds
difference_bounds l r = record { least = l.least -ℤ r.greatest; greatest = l.greatest -ℤ r.least }

abbrev pub product_bounds : Bounds → Bounds → Bounds
product_bounds l r = record {
  least = int_min (int_min (l.least *ℤ r.least) (l.least *ℤ r.greatest)) (int_min (l.greatest *ℤ r.least) (l.greatest *ℤ r.greatest));
  greatest = int_max (int_max (l.least *ℤ r.least) (l.least *ℤ r.greatest)) (int_max (l.greatest *ℤ r.least) (l.greatest *ℤ r.greatest));
}

-- quotients and remainders have none
abbrev pub bounds_of : ArithmeticOperator → Bounds → Bounds → Option Bounds
bounds_of Add l r = Some (sum_bounds l r)
bounds_of Sub l r = Some (difference_bounds l r)
bounds_of Mul l r = Some (product_bounds l r)
bounds_of Div l r = None
bounds_of Mod l r = None

-- both are numbers of 64 bits
abbrev pub Fit : Bounds → Type 0
Fit b = FitsSigned w64 b.least × FitsSigned w64 b.greatest

-- the bounds, where there are such and they fit, and else none
abbrev pub AreFitting : Option Bounds → Option Bounds → Type 0
AreFitting bounds made = MatchOption bounds (made ≡ None) (λ b. SomeIff made (Fit b) b)
