-- Expressions that may divide by zero.
use Rattle.std.specs.Prelude.{pos, Bool, true, false, ◌||◌, ◌&&◌, not}
use Rattle.std.specs.Ordering.{int_eq}
use Rattle.typed_trees.specs.declared.operator.ArithmeticOperator.{ArithmeticOperator}
use Rattle.typed_trees.specs.declared.operator.ArithmeticOperator.TheVariants.{Div, Mod}
use Rattle.typed_trees.specs.TypedTree.{NumberExprOf, TruthExprOf, TypedExprOf, number_literal, negated, arithmetic, scaled, negation, conjunction, disjunction, compare_numbers, compare_truths, number_in, truth_in, integer, truth, decimal}

abbrev pub divides : ArithmeticOperator → Bool
divides Div = true
divides Mod = true
divides _ = false

-- a number literal that is not zero
abbrev pub is_nonzero : NumberExprOf → Bool
is_nonzero (number_literal n) = not (int_eq n (pos 0))
is_nonzero _ = false

-- the same, perhaps after one `-`
abbrev pub is_safe_divisor : NumberExprOf → Bool
is_safe_divisor (negated e) = is_nonzero e
is_safe_divisor e = is_nonzero e

-- a `div` or `mod` has another right side
abbrev pub number_can_fault : NumberExprOf → Bool
number_can_fault (negated a) = number_can_fault a
number_can_fault (arithmetic o a b) = (divides o && not (is_safe_divisor b)) || number_can_fault a || number_can_fault b
number_can_fault (scaled a) = number_can_fault a
number_can_fault _ = false

abbrev pub truth_can_fault : TruthExprOf → Bool
truth_can_fault (negation a) = truth_can_fault a
truth_can_fault (conjunction a b) = truth_can_fault a || truth_can_fault b
truth_can_fault (disjunction a b) = truth_can_fault a || truth_can_fault b
truth_can_fault (compare_numbers o a b) = number_can_fault a || number_can_fault b
truth_can_fault (compare_truths o a b) = truth_can_fault a || truth_can_fault b
truth_can_fault (number_in a items) = number_can_fault a
truth_can_fault (truth_in a items) = truth_can_fault a
truth_can_fault _ = false

abbrev pub can_fault : TypedExprOf → Bool
can_fault (integer e bound) = number_can_fault e
can_fault (truth e) = truth_can_fault e
can_fault (decimal e bound) = number_can_fault e
can_fault _ = false
