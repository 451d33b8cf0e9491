-- The outcome of an expression on a row (OData 4.01 URL Conventions, section 5.1.1): a value or null, or None, which is a division by zero.
-- Each operand is evaluated, but for the right sides that `and` and `or` pass over.
use Rattle.std.specs.Prelude.{ℕ, ℤ, pos, ◌++◌, List, Option, Some, None, option_map, option_and_then, ◌+ℤ◌, ◌-ℤ◌, ◌*ℤ◌, neg_ℤ, int_div, int_rem, if◌then◌else◌}
use Rattle.std.specs.Cmp.Lexicographic.{slice_cmp}
use Rattle.std.specs.Ordering.{int_eq, int_cmp, nat_cmp, bool_cmp}
use Rattle.cell_types.specs.Value as value
use Rattle.cell_types.specs.Value.{CellValue}
use Rattle.typed_trees.specs.declared.operator.ArithmeticOperator.{ArithmeticOperator}
use Rattle.typed_trees.specs.declared.operator.ArithmeticOperator.TheVariants.{Add, Sub, Mul, Div, Mod}
use Rattle.typed_trees.specs.declared.tree.DatePart.{DatePart}
use Rattle.typed_trees.specs.declared.tree.DatePart.TheVariants.{Year, Month, Day}
use Rattle.typed_trees.specs.declared.tree.TheConstants.{MILLIONTHS}
use Rattle.typed_trees.specs.TypedTree as typed
use Rattle.typed_trees.specs.TypedTree.{DayOf, DateExprOf, TextExprOf, NumberExprOf, TruthExprOf, TypedExprOf}
use Rattle.row_eval.specs.declared.truth.Truth.{Truth}
use Rattle.row_eval.specs.declared.truth.Truth.TheVariants as truths
use Rattle.row_eval.specs.Row.{cell, boolean_in, day_in, number_in, text_in}
use Rattle.row_eval.specs.Text.{index_in, length_in, text_passes}
use Rattle.row_eval.specs.Comparison.{compared, holds, is_among}
use Rattle.row_eval.specs.Logic.{and_then, opposite, option_of_truth, or_then, truth_of, truth_of_option}

-- two values joined; null beside a null
abbrev pub joined : {X Y : Type 0} → (X → X → Y) → Option X → Option X → Option Y
joined f (Some a) (Some b) = Some (f a b)
joined f _ _ = None

-- ---- dates and texts, which have no division

abbrev pub date_outcome : DateExprOf → List CellValue → Option DayOf
date_outcome typed.null_date row = None
date_outcome (typed.date_column place) row = cell day_in row place
date_outcome (typed.date_literal day) row = Some day

abbrev pub text_outcome : TextExprOf → List CellValue → Option (List ℕ)
text_outcome typed.null_text row = None
text_outcome (typed.text_column place) row = cell text_in row place
text_outcome (typed.text_literal t) row = Some t
text_outcome (typed.concat a b) row = joined (λ x y. x ++ y) (text_outcome a row) (text_outcome b row)

-- ---- numbers

-- two numbers joined by an operator; division truncates towards zero, and `mod` has the sign of the left number
abbrev pub operation : ArithmeticOperator → ℤ → ℤ → Option ℤ
operation Add a b = Some (a +ℤ b)
operation Sub a b = Some (a -ℤ b)
operation Mul a b = Some (a *ℤ b)
operation Div a b = if int_eq b (pos 0) then None else Some (int_div a b)
operation Mod a b = if int_eq b (pos 0) then None else Some (int_rem a b)

-- the same beside nulls: null, and no division by zero
abbrev pub computed : ArithmeticOperator → Option ℤ → Option ℤ → Option (Option ℤ)
computed o (Some a) (Some b) = option_map (λ n. Some n) (operation o a b)
computed o _ _ = Some None

abbrev pub part_in : DatePart → DayOf → ℤ
part_in Year d = d.year
part_in Month d = pos d.month
part_in Day d = pos d.day

abbrev pub number_outcome : NumberExprOf → List CellValue → Option (Option ℤ)
number_outcome typed.null_number row = Some None
number_outcome (typed.number_column kind place) row = Some (cell (number_in kind) row place)
number_outcome (typed.number_literal n) row = Some (Some n)
number_outcome (typed.negated a) row = option_map (option_map neg_ℤ) (number_outcome a row)
number_outcome (typed.arithmetic o a b) row = option_and_then (λ x. option_and_then (λ y. computed o x y) (number_outcome b row)) (number_outcome a row)
number_outcome (typed.length_of t) row = Some (option_map length_in (text_outcome t row))
number_outcome (typed.index_of t p) row = Some (joined index_in (text_outcome t row) (text_outcome p row))
number_outcome (typed.part_of p d) row = Some (option_map (part_in p) (date_outcome d row))
number_outcome (typed.scaled a) row = option_map (option_map (λ x. x *ℤ pos MILLIONTHS)) (number_outcome a row)

-- ---- truths

abbrev pub both : {X Y : Type 0} → (X → X → Y) → Option X → Option X → Option Y
both f a b = option_and_then (λ x. option_map (f x) b) a

abbrev pub truth_outcome : TruthExprOf → List CellValue → Option Truth
truth_outcome typed.null_truth row = Some truths.Null
truth_outcome (typed.truth_column place) row = Some (truth_of_option (cell boolean_in row place))
truth_outcome (typed.truth_literal b) row = Some (truth_of b)
truth_outcome (typed.negation a) row = option_map opposite (truth_outcome a row)
truth_outcome (typed.conjunction a b) row = option_and_then (λ x. and_then x (truth_outcome b row)) (truth_outcome a row)
truth_outcome (typed.disjunction a b) row = option_and_then (λ x. or_then x (truth_outcome b row)) (truth_outcome a row)
truth_outcome (typed.compare_numbers o a b) row = both (λ x y. truth_of (holds o (compared int_cmp x y))) (number_outcome a row) (number_outcome b row)
truth_outcome (typed.compare_texts o a b) row = Some (truth_of (holds o (compared (slice_cmp nat_cmp) (text_outcome a row) (text_outcome b row))))
truth_outcome (typed.compare_truths o a b) row = both (λ x y. truth_of (holds o (compared bool_cmp (option_of_truth x) (option_of_truth y)))) (truth_outcome a row) (truth_outcome b row)
truth_outcome (typed.number_in a items) row = option_map (λ x. truth_of (is_among int_cmp x items)) (number_outcome a row)
truth_outcome (typed.text_in a items) row = Some (truth_of (is_among (slice_cmp nat_cmp) (text_outcome a row) items))
truth_outcome (typed.truth_in a items) row = option_map (λ x. truth_of (is_among bool_cmp (option_of_truth x) items)) (truth_outcome a row)
truth_outcome (typed.test_text test t p) row = Some (truth_of_option (joined (text_passes test) (text_outcome t row) (text_outcome p row)))

-- ---- expressions of any type

abbrev pub or_null : {X : Type 0} → (X → CellValue) → Option X → CellValue
or_null f None = value.null
or_null f (Some x) = f x

abbrev pub day_value : DayOf → CellValue
day_value d = value.date d.year d.month d.day

abbrev pub outcome : TypedExprOf → List CellValue → Option CellValue
outcome typed.nothing row = Some value.null
outcome (typed.integer e bound) row = option_map (or_null value.integer) (number_outcome e row)
outcome (typed.text e) row = Some (or_null value.text (text_outcome e row))
outcome (typed.truth e) row = option_map (λ t. or_null value.boolean (option_of_truth t)) (truth_outcome e row)
outcome (typed.date e) row = Some (or_null day_value (date_outcome e row))
outcome (typed.decimal e bound) row = option_map (or_null value.decimal) (number_outcome e row)
