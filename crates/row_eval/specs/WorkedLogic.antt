-- Outcomes of three-valued logic, of `in` and of arithmetic, written by hand.
use Rattle.std.specs.Prelude.{◌≡◌, ℤ, pos, negsuc, true, false, [], ◌∷◌, codes, Some, None}
use Rattle.typed_trees.specs.declared.operator.ArithmeticOperator.{ArithmeticOperator}
use Rattle.typed_trees.specs.declared.operator.ArithmeticOperator.TheVariants.{Add, Sub, Mul, Div, Mod}
use Rattle.cell_types.specs.declared.comparison.ComparisonOperator.TheVariants.{Equal, NotEqual}
use Rattle.typed_trees.specs.TypedTree.{NumberExprOf, TruthExprOf, number_literal, null_number, negated, arithmetic, number_of_date, scaled, text_column, date_column, truth_column, truth_literal, null_truth, negation, conjunction, disjunction, compare_numbers, compare_truths, number_in, text_in, truth_in, number_of_day}
use Rattle.row_eval.specs.declared.truth.Truth.TheVariants.{False, Null, True}
use Rattle.row_eval.specs.Outcome.{number_outcome, truth_outcome}
use Rattle.row_eval.specs.Worked.{HasNoNumber, Is, Numbers, blank, full, id_number, price_number}

-- ---- logic (section 5.1.1.1.9): true, false and null

abbrev pub yes : TruthExprOf
yes = truth_literal true

abbrev pub no : TruthExprOf
no = truth_literal false

-- `1 div 0 eq 1`
abbrev pub faulty : TruthExprOf
faulty = compare_numbers Equal (arithmetic Div (number_literal (pos 1)) (number_literal (pos 0))) (number_literal (pos 1))

-- a division by zero on each row
abbrev pub Faults : TruthExprOf → Type 0
Faults e = truth_outcome e full ≡ None

pub record WorkedLogic : Type 0 where
  -- `and`
  pub true_and_true : Is (conjunction yes yes) full True
  pub true_and_false : Is (conjunction yes no) full False
  pub true_and_null : Is (conjunction yes null_truth) full Null
  pub false_and_true : Is (conjunction no yes) full False
  pub false_and_false : Is (conjunction no no) full False
  pub false_and_null : Is (conjunction no null_truth) full False
  pub null_and_true : Is (conjunction null_truth yes) full Null
  pub null_and_false : Is (conjunction null_truth no) full False
  pub null_and_null : Is (conjunction null_truth null_truth) full Null
  -- `or`
  pub true_or_true : Is (disjunction yes yes) full True
  pub true_or_false : Is (disjunction yes no) full True
  pub true_or_null : Is (disjunction yes null_truth) full True
  pub false_or_true : Is (disjunction no yes) full True
  pub false_or_false : Is (disjunction no no) full False
  pub false_or_null : Is (disjunction no null_truth) full Null
  pub null_or_true : Is (disjunction null_truth yes) full True
  pub null_or_false : Is (disjunction null_truth no) full Null
  pub null_or_null : Is (disjunction null_truth null_truth) full Null
  -- `not`
  pub not_true : Is (negation yes) full False
  pub not_false : Is (negation no) full True
  pub not_null : Is (negation null_truth) full Null
  -- a column that is null
  pub null_column : Is (conjunction (truth_column 2) yes) blank Null
  pub not_null_column : Is (negation (truth_column 2)) blank Null
  -- a comparison is never null: `not (Id eq null)`, `not (Id ne null)`
  pub not_equal_null : Is (negation (compare_numbers Equal id_number null_number)) blank False
  pub not_unequal_null : Is (negation (compare_numbers NotEqual id_number null_number)) blank True
  -- the right side is passed over after `false and` and `true or`; every other operand is evaluated
  pub false_and_faulty : Is (conjunction no faulty) full False
  pub true_or_faulty : Is (disjunction yes faulty) full True
  pub true_and_faulty : Faults (conjunction yes faulty)
  pub null_and_faulty : Faults (conjunction null_truth faulty)
  pub false_or_faulty : Faults (disjunction no faulty)
  pub null_or_faulty : Faults (disjunction null_truth faulty)
  pub faulty_and_false : Faults (conjunction faulty no)
  pub faulty_or_true : Faults (disjunction faulty yes)
  pub not_faulty : Faults (negation faulty)
  pub faulty_beside_null : Faults (compare_truths Equal null_truth faulty)
  pub faulty_among : Faults (truth_in faulty [])
  -- `in` is `eq` of one of the items, so null is among items of which one is null, and `in` is never null
  pub among : Is (number_in id_number (Some (pos 5) ∷ Some (pos 7) ∷ [])) full True
  pub not_among : Is (number_in id_number (Some (pos 5) ∷ [])) full False
  pub beside_null : Is (number_in id_number (None ∷ Some (pos 7) ∷ [])) full True
  pub not_null_among : Is (number_in id_number (None ∷ [])) full False
  pub null_among : Is (number_in id_number (Some (pos 7) ∷ None ∷ [])) blank True
  pub null_not_among : Is (number_in id_number (Some (pos 7) ∷ [])) blank False
  pub decimal_among : Is (number_in price_number (Some (pos 2_500_000) ∷ [])) full True
  pub decimal_not_among : Is (number_in price_number (Some (pos 2) ∷ None ∷ [])) full False
  pub text_among : Is (text_in (text_column 1) (Some (codes "Bonn") ∷ Some (codes "Oslo") ∷ [])) full True
  pub text_not_among : Is (text_in (text_column 1) (Some (codes "Os") ∷ None ∷ [])) full False
  pub null_text_among : Is (text_in (text_column 1) (None ∷ [])) blank True
  pub date_among : Is (number_in (number_of_date (date_column 3)) (Some (number_of_day (record { year = pos 2024; month = 2; day = 29 })) ∷ [])) full True
  pub date_not_among : Is (number_in (number_of_date (date_column 3)) (Some (number_of_day (record { year = pos 2024; month = 2; day = 28 })) ∷ None ∷ [])) full False
  pub truth_among : Is (truth_in (truth_column 2) (Some true ∷ [])) full True
  pub truth_not_among : Is (truth_in (truth_column 2) (Some false ∷ None ∷ [])) full False
  pub null_truth_among : Is (truth_in (truth_column 2) (Some false ∷ None ∷ [])) blank True

-- ---- arithmetic (section 5.1.1.2)

abbrev pub ten : NumberExprOf
ten = number_literal (pos 10)

-- 3 and -3
abbrev pub three : NumberExprOf
three = number_literal (pos 3)

abbrev pub minus_three : NumberExprOf
minus_three = number_literal (negsuc 2)

abbrev pub zero : NumberExprOf
zero = number_literal (pos 0)

-- -10
abbrev pub minus_ten : NumberExprOf
minus_ten = negated ten

abbrev pub Computes : ArithmeticOperator → NumberExprOf → NumberExprOf → ℤ → Type 0
Computes o a b n = Numbers (arithmetic o a b) full n

abbrev pub ComputesNull : ArithmeticOperator → NumberExprOf → NumberExprOf → Type 0
ComputesNull o a b = HasNoNumber (arithmetic o a b) full

abbrev pub DividesByZero : NumberExprOf → Type 0
DividesByZero e = number_outcome e full ≡ None

pub record WorkedNumbers : Type 0 where
  pub sum : Computes Add ten minus_three (pos 7)
  pub difference : Computes Sub three ten (negsuc 6)
  pub product : Computes Mul ten minus_three (negsuc 29)
  pub minus : Numbers (negated id_number) full (negsuc 6)
  pub minus_null : HasNoNumber (negated id_number) blank
  -- division truncates towards zero
  pub quotient : Computes Div ten three (pos 3)
  pub left_below : Computes Div minus_ten three (negsuc 2)
  pub right_below : Computes Div ten minus_three (negsuc 2)
  pub both_below : Computes Div minus_ten minus_three (pos 3)
  pub small_quotient : Computes Div minus_three ten (pos 0)
  -- `mod` has the sign of the left number
  pub remainder : Computes Mod ten three (pos 1)
  pub remainder_below : Computes Mod minus_ten three (negsuc 0)
  pub remainder_by_below : Computes Mod ten minus_three (pos 1)
  pub remainder_of_both : Computes Mod minus_ten minus_three (negsuc 0)
  pub no_remainder : Computes Mod minus_ten ten (pos 0)
  -- beside a null
  pub null_sum : ComputesNull Add null_number three
  pub sum_null : ComputesNull Add three null_number
  pub null_difference : ComputesNull Sub null_number three
  pub product_null : ComputesNull Mul zero null_number
  pub null_quotient : ComputesNull Div null_number three
  pub remainder_null : ComputesNull Mod three null_number
  -- by zero, but for a null
  pub by_zero : DividesByZero (arithmetic Div ten zero)
  pub zero_by_zero : DividesByZero (arithmetic Div zero zero)
  pub mod_zero : DividesByZero (arithmetic Mod ten zero)
  pub null_by_zero : ComputesNull Div null_number zero
  pub null_mod_zero : ComputesNull Mod null_number zero
  -- a fault of an operand is one of the whole, beside a null too
  pub null_and_fault : DividesByZero (arithmetic Add null_number (arithmetic Div ten zero))
  pub fault_and_null : DividesByZero (arithmetic Add (arithmetic Div ten zero) null_number)
  pub minus_fault : DividesByZero (negated (arithmetic Mod ten zero))
  -- decimals are exact
  pub decimal_sum_of : Numbers (arithmetic Add price_number (number_literal (pos 1))) full (pos 2_500_001)
  pub decimal_difference_of : Numbers (arithmetic Sub (number_literal (pos 1)) price_number) full (negsuc 2_499_998)
  pub decimal_minus : Numbers (negated price_number) full (negsuc 2_499_999)
  pub scaled_integer : Numbers (arithmetic Add price_number (scaled three)) full (pos 5_500_000)
  pub scaled_below : Numbers (scaled minus_three) full (negsuc 2_999_999)
  pub decimal_null : HasNoNumber (arithmetic Add price_number null_number) full
  pub null_decimal_first : HasNoNumber (arithmetic Sub null_number price_number) full
  pub scaled_null : HasNoNumber (scaled null_number) full
  pub minus_null_decimal : HasNoNumber (negated null_number) full
  pub scaled_fault : DividesByZero (arithmetic Add null_number (scaled (arithmetic Div ten zero)))
  pub fault_in_comparison : Faults (compare_numbers Equal null_number (scaled (arithmetic Mod ten zero)))
  -- numbers as great as 2 to the 126, and a quotient over the greatest number of 64 signed bits
  pub great_sum : Computes Add (number_literal (pos 85_070_591_730_234_615_865_843_651_857_942_052_863)) (number_literal (pos 1))
      (pos 85_070_591_730_234_615_865_843_651_857_942_052_864)
  pub great_product : Computes Mul (number_literal (negsuc 9_223_372_036_854_775_807)) (number_literal (negsuc 9_223_372_036_854_775_807))
      (pos 85_070_591_730_234_615_865_843_651_857_942_052_864)
  pub great_quotient : Computes Div (number_literal (negsuc 9_223_372_036_854_775_807)) (number_literal (negsuc 0)) (pos 9_223_372_036_854_775_808)
