-- What a comparison says of the numbers of a column (OData 4.01, URL Conventions, sections 5.1.1.1.1 to 5.1.1.1.6).
use Rattle.std.specs.Prelude.{◌≡◌, ℤ, Bool, true, false, not, ◌&&◌, int_le, FitsSigned, Option, None, Some, option_map}
use Rattle.std.specs.Int.{w64}
use Rattle.std.specs.Ordering.{int_cmp, is_eq, is_ge, is_gt, is_le, is_lt, is_some_and}
use Rattle.std.specs.declared.cmp.Ordering.{Ordering}
use Rattle.block_summary.specs.declared.bounds.Bounds.{Bounds}
use Rattle.cell_types.specs.declared.comparison.ComparisonOperator.{ComparisonOperator}
use Rattle.cell_types.specs.declared.comparison.ComparisonOperator.TheVariants.{Equal, NotEqual, GreaterThan, GreaterOrEqual, LessThan, LessOrEqual}

-- how a number lies to a literal; null lies in no order
abbrev pub number_order : Option ℤ → ℤ → Option Ordering
number_order n literal = option_map (λ z. int_cmp z literal) n

-- a number, or null, compared with a literal that is no null
abbrev pub number_passes : ComparisonOperator → ℤ → Option ℤ → Bool
number_passes Equal literal n = is_some_and is_eq (number_order n literal)
number_passes NotEqual literal n = not (is_some_and is_eq (number_order n literal))
number_passes GreaterThan literal n = is_some_and is_gt (number_order n literal)
number_passes GreaterOrEqual literal n = is_some_and is_ge (number_order n literal)
number_passes LessThan literal n = is_some_and is_lt (number_order n literal)
number_passes LessOrEqual literal n = is_some_and is_le (number_order n literal)

-- ---- inside

-- a number lies between two; null does not
abbrev pub lies_between : Bounds → Option ℤ → Bool
lies_between b None = false
lies_between b (Some z) = int_le b.least z && int_le z b.greatest

-- what is not equal is what is turned of what is equal
abbrev pub unturned : ComparisonOperator → ComparisonOperator
unturned NotEqual = Equal
unturned op = op

abbrev pub is_turned : ComparisonOperator → Bool
is_turned NotEqual = true
is_turned op = false

-- of the numbers of 64 bits those lie between two that pass
abbrev pub SpansPassing : ComparisonOperator → ℤ → Bounds → Type 0
SpansPassing op literal b = (z : ℤ) → FitsSigned w64 z → lies_between b (Some z) ≡ number_passes (unturned op) literal (Some z)
