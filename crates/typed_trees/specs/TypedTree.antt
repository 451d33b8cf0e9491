-- Typed expressions, whichever memory keeps them (OData 4.01 URL Conventions, section 5.1.1).
pub use Rattle.cell_types.specs.Kind.{DayOf, number_of_day}
use Rattle.std.specs.Prelude.{ℕ, ℤ, Bool, List, Option, map, option_map, string_bytes, Box, String}
use Rattle.jiff_core.specs.declared.civil.date.Date.{Date}
use Rattle.typed_trees.specs.declared.operator.ArithmeticOperator.{ArithmeticOperator}
use Rattle.cell_types.specs.declared.comparison.ComparisonOperator.{ComparisonOperator}
use Rattle.typed_trees.specs.declared.tree.DateExpr.{DateExpr}
use Rattle.typed_trees.specs.declared.tree.DateExpr.TheVariants as dates
use Rattle.typed_trees.specs.declared.tree.TextExpr.{TextExpr}
use Rattle.typed_trees.specs.declared.tree.TextExpr.TheVariants as texts
use Rattle.typed_trees.specs.declared.tree.DatePart.{DatePart}
use Rattle.cell_types.specs.declared.kind.NumberKind.{NumberKind}
use Rattle.cell_types.specs.declared.kind.NumberKind.TheVariants as kind
use Rattle.typed_trees.specs.declared.tree.NumberExpr.{NumberExpr}
use Rattle.typed_trees.specs.declared.tree.NumberExpr.TheVariants as numbers
use Rattle.typed_trees.specs.declared.tree.TextTest.{TextTest}
use Rattle.typed_trees.specs.declared.tree.TruthExpr.{TruthExpr}
use Rattle.typed_trees.specs.declared.tree.TruthExpr.TheVariants as truths
use Rattle.typed_trees.specs.declared.tree.TypedExpr.{TypedExpr}
use Rattle.typed_trees.specs.declared.tree.TypedExpr.TheVariants as typed

abbrev pub day_view : Date → DayOf
day_view date = record { year = date.year; month = date.month; day = date.day }

-- a date: null, the column with a number, or a literal
pub data DateExprOf : Type 0 where
  null_date : DateExprOf
  date_column : ℕ → DateExprOf
  date_literal : DayOf → DateExprOf

abbrev pub date_view : DateExpr → DateExprOf
date_view dates.Null = null_date
date_view (dates.Column place) = date_column place
date_view (dates.Literal date) = date_literal (day_view date)

pub data TextExprOf : Type 0 where
  null_text : TextExprOf
  text_column : ℕ → TextExprOf
  text_literal : List ℕ → TextExprOf
  concat : TextExprOf → TextExprOf → TextExprOf

abbrev pub text_view : TextExpr → TextExprOf
text_view texts.Null = null_text
text_view (texts.Column place) = text_column place
text_view (texts.Literal text) = text_literal (string_bytes text)
text_view (texts.Concat' p a q b) = concat (text_view a) (text_view b)

-- a number stands for a value of a kind of numbers
pub data NumberExprOf : Type 0 where
  null_number : NumberExprOf
  number_column : NumberKind → ℕ → NumberExprOf
  number_literal : ℤ → NumberExprOf
  negated : NumberExprOf → NumberExprOf
  arithmetic : ArithmeticOperator → NumberExprOf → NumberExprOf → NumberExprOf
  length_of : TextExprOf → NumberExprOf
  index_of : TextExprOf → TextExprOf → NumberExprOf
  part_of : DatePart → DateExprOf → NumberExprOf
  scaled : NumberExprOf → NumberExprOf

abbrev pub number_view : NumberExpr → NumberExprOf
number_view numbers.Null = null_number
number_view (numbers.Column what place) = number_column what place
number_view (numbers.Literal n) = number_literal n
number_view (numbers.Negate' p a) = negated (number_view a)
number_view (numbers.Arithmetic' o p a q b) = arithmetic o (number_view a) (number_view b)
number_view (numbers.Length text) = length_of (text_view text.value)
number_view (numbers.IndexOf text part) = index_of (text_view text.value) (text_view part.value)
number_view (numbers.PartOf part date) = part_of part (date_view date)
number_view (numbers.Scaled' p a) = scaled (number_view a)

-- a date as a number
abbrev pub number_of_date : DateExprOf → NumberExprOf
number_of_date null_date = null_number
number_of_date (date_column place) = number_column kind.Date place
number_of_date (date_literal day) = number_literal (number_of_day day)

abbrev pub optional_text : {A : Type 0} → Option (String A) → Option (List ℕ)
optional_text text = option_map string_bytes text

abbrev pub optional_day : Option Date → Option DayOf
optional_day date = option_map day_view date

-- the items of a list are values, or None for null
pub data TruthExprOf : Type 0 where
  null_truth : TruthExprOf
  truth_column : ℕ → TruthExprOf
  truth_literal : Bool → TruthExprOf
  negation : TruthExprOf → TruthExprOf
  conjunction : TruthExprOf → TruthExprOf → TruthExprOf
  disjunction : TruthExprOf → TruthExprOf → TruthExprOf
  compare_numbers : ComparisonOperator → NumberExprOf → NumberExprOf → TruthExprOf
  compare_texts : ComparisonOperator → TextExprOf → TextExprOf → TruthExprOf
  compare_truths : ComparisonOperator → TruthExprOf → TruthExprOf → TruthExprOf
  number_in : NumberExprOf → List (Option ℤ) → TruthExprOf
  text_in : TextExprOf → List (Option (List ℕ)) → TruthExprOf
  truth_in : TruthExprOf → List (Option Bool) → TruthExprOf
  test_text : TextTest → TextExprOf → TextExprOf → TruthExprOf

abbrev pub truth_view : TruthExpr → TruthExprOf
truth_view truths.Null = null_truth
truth_view (truths.Column place) = truth_column place
truth_view (truths.Literal b) = truth_literal b
truth_view (truths.Not' p a) = negation (truth_view a)
truth_view (truths.And' p a q b) = conjunction (truth_view a) (truth_view b)
truth_view (truths.Or' p a q b) = disjunction (truth_view a) (truth_view b)
truth_view (truths.CompareNumbers o a b) = compare_numbers o (number_view a.value) (number_view b.value)
truth_view (truths.CompareTexts o a b) = compare_texts o (text_view a.value) (text_view b.value)
truth_view (truths.CompareTruths' o p a q b) = compare_truths o (truth_view a) (truth_view b)
truth_view (truths.NumberIn a items) = number_in (number_view a.value) items.items
truth_view (truths.TextIn a items) = text_in (text_view a.value) (map optional_text items.items)
truth_view (truths.TruthIn' p a items) = truth_in (truth_view a) items.items
truth_view (truths.TestText test text part) = test_text test (text_view text.value) (text_view part.value)

abbrev pub boxed_text : {A : Type 0} → Box TextExpr A → TextExprOf
boxed_text e = text_view e.value

abbrev pub boxed_truth : {A : Type 0} → Box TruthExpr A → TruthExprOf
boxed_truth e = truth_view e.value

abbrev pub boxed_number : {A : Type 0} → Box NumberExpr A → NumberExprOf
boxed_number e = number_view e.value

-- a number beside its bound
abbrev pub sized_number : {A : Type 0} → Box NumberExpr A × ℕ → NumberExprOf × ℕ
sized_number p = (number_view p.0.value, p.1)

-- an expression of any type; beside a number its bound
pub data TypedExprOf : Type 0 where
  nothing : TypedExprOf
  integer : NumberExprOf → ℕ → TypedExprOf
  text : TextExprOf → TypedExprOf
  truth : TruthExprOf → TypedExprOf
  date : DateExprOf → TypedExprOf
  decimal : NumberExprOf → ℕ → TypedExprOf

abbrev pub typed_view : TypedExpr → TypedExprOf
typed_view typed.Null = nothing
typed_view (typed.Integer e bound) = integer (number_view e.value) bound
typed_view (typed.Text e) = text (text_view e.value)
typed_view (typed.Boolean e) = truth (truth_view e.value)
typed_view (typed.Date e) = date (date_view e)
typed_view (typed.Decimal e bound) = decimal (number_view e.value) bound
