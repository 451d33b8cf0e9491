-- Expressions with their types, or the causes why they have none, on a table with a column of each type.
use Rattle.std.specs.Prelude.{◌≡◌, ℕ, pos, negsuc, true, List, [], ◌∷◌, codes, Some, None, Ok, Err}
use Rattle.odata_parse.specs.declared.tree.UnaryOperator.TheVariants.{Negate, Not}
use Rattle.odata_parse.specs.declared.tree.LogicOperator.TheVariants.{And, Or}
use Rattle.cell_types.specs.declared.comparison.ComparisonOperator.{ComparisonOperator}
use Rattle.cell_types.specs.declared.comparison.ComparisonOperator.TheVariants.{Equal, NotEqual, GreaterThan, GreaterOrEqual, LessThan, LessOrEqual}
use Rattle.typed_trees.specs.declared.operator.ArithmeticOperator.{ArithmeticOperator}
use Rattle.typed_trees.specs.declared.operator.ArithmeticOperator.TheVariants.{Add, Sub, Mul, Div, Mod}
use Rattle.odata_parse.specs.declared.tree.BinaryOperator.TheVariants as operator
use Rattle.odata_parse.specs.declared.tree.UnaryFunction.TheVariants.{Length, Year, Month, Day}
use Rattle.odata_parse.specs.declared.tree.BinaryFunction.TheVariants.{Contains, StartsWith, EndsWith, IndexOf, Concat}
use Rattle.odata_parse.specs.Tree as tree
use Rattle.odata_parse.specs.Tree.{ExprOf}
use Rattle.cell_types.specs.declared.kind.ColumnKind.{ColumnKind}
use Rattle.cell_types.specs.declared.kind.ColumnKind.TheVariants.{Text, Number}
use Rattle.odata_types.specs.declared.types.TheConstants.{COLUMN_SIZE, FUNCTION_SIZE}
use Rattle.odata_types.specs.declared.fault.TypeFault.{TypeFault}
use Rattle.odata_types.specs.declared.fault.TypeFault.TheVariants.{UnknownName, Mismatch, TooLarge}
use Rattle.typed_trees.specs.declared.tree.DatePart.TheVariants as part
use Rattle.typed_trees.specs.declared.tree.TextTest.TheVariants as test
use Rattle.odata_types.specs.Columns.{of_size, InputOf}
use Rattle.cell_types.specs.declared.kind.NumberKind.TheVariants as numbers
use Rattle.typed_trees.specs.TypedTree.{DayOf, NumberExprOf, TypedExprOf, date_column, date_literal, null_text, text_column, text_literal, concat, null_number, number_column, number_literal, negated, arithmetic, length_of, index_of, part_of, scaled, null_truth, truth_column, truth_literal, negation, conjunction, disjunction, compare_numbers, compare_texts, compare_truths, number_in, text_in, truth_in, test_text, nothing, integer, text, truth, date, decimal, number_of_day}
use Rattle.odata_types.specs.Typing.{filter_typing, typing}

abbrev pub input_column : List ℕ → ColumnKind → InputOf
input_column name kind = record { name = name; column_type = of_size kind COLUMN_SIZE }

abbrev pub columns : List InputOf
columns =
    input_column (codes "Id") (Number numbers.Integer)
    ∷ input_column (codes "Name") Text
    ∷ input_column (codes "Pop") (Number numbers.Integer)
    ∷ input_column (codes "Open") (Number numbers.Boolean)
    ∷ input_column (codes "Since") (Number numbers.Date)
    ∷ input_column (codes "Price") (Number numbers.Decimal)
    ∷ []

-- ---- expressions

abbrev pub id : ExprOf
id = tree.name (codes "Id")

abbrev pub name : ExprOf
name = tree.name (codes "Name")

abbrev pub pop_name : ExprOf
pop_name = tree.name (codes "Pop")

abbrev pub open_now : ExprOf
open_now = tree.name (codes "Open")

abbrev pub since : ExprOf
since = tree.name (codes "Since")

abbrev pub price : ExprOf
price = tree.name (codes "Price")

abbrev pub nobody : ExprOf
nobody = tree.name (codes "Nobody")

abbrev pub null : ExprOf
null = tree.literal tree.null

abbrev pub yes_literal : ExprOf
yes_literal = tree.literal (tree.boolean true)

abbrev pub number : ℕ → ExprOf
number n = tree.literal (tree.number (pos n))

-- `'a'`
abbrev pub letter : ExprOf
letter = tree.literal (tree.text (codes "a"))

-- `2024-02-29`
abbrev pub leap_day : ExprOf
leap_day = tree.literal (tree.date (pos 2024) 2 29)

abbrev pub leap_day_of : DayOf
leap_day_of = record { year = pos 2024; month = 2; day = 29 }

abbrev pub arithmetic_expr : ArithmeticOperator → ExprOf → ExprOf → ExprOf
arithmetic_expr o a b = tree.binary (operator.Arithmetic o) a b

abbrev pub comparison_tree : ComparisonOperator → ExprOf → ExprOf → ExprOf
comparison_tree o a b = tree.binary (operator.Comparison o) a b

-- columns as numbers
abbrev pub integer_column : ℕ → NumberExprOf
integer_column place = number_column numbers.Integer place

abbrev pub price_column : NumberExprOf
price_column = number_column numbers.Decimal 5

abbrev pub since_number : NumberExprOf
since_number = number_column numbers.Date 4

-- an expression has this type and tree, or no type for this cause
abbrev pub Has : ExprOf → TypedExprOf → Type 0
Has e t = typing columns e ≡ Ok t

abbrev pub Fails : ExprOf → TypeFault → Type 0
Fails e cause = typing columns e ≡ Err cause

-- 1 and 32 zeros: times 1,000,000 it is over 2 to the 126
abbrev pub huge : ℕ
huge = 100_000_000_000_000_000_000_000_000_000_000

-- 2 to the 126
abbrev pub most : ℕ
most = 85_070_591_730_234_615_865_843_651_857_942_052_864

pub record WorkedOperands : Type 0 where
  -- `null`, `true`, `5`, `2.5`, `'a'` and `2024-02-29`
  pub null_literal : Has null nothing
  pub boolean_literal : Has yes_literal (truth (truth_literal true))
  pub integer_literal : Has (number 5) (integer (number_literal (pos 5)) 5)
  pub negative_literal : Has (tree.literal (tree.number (negsuc 4))) (integer (number_literal (negsuc 4)) 5)
  pub fraction_literal : Has (tree.literal (tree.decimal (pos 2_500_000))) (decimal (number_literal (pos 2_500_000)) 2_500_000)
  pub letter_literal : Has letter (text (text_literal (codes "a")))
  pub day_literal : Has leap_day (date (date_literal leap_day_of))
  -- a number of 2 to the 126, and one more
  pub most_literal : Has (number most) (integer (number_literal (pos most)) most)
  pub too_large : Fails (number 85_070_591_730_234_615_865_843_651_857_942_052_865) TooLarge
  -- names
  pub integer_name : Has pop_name (integer (integer_column 2) COLUMN_SIZE)
  pub text_name : Has name (text (text_column 1))
  pub boolean_name : Has open_now (truth (truth_column 3))
  pub date_name : Has since (date (date_column 4))
  pub decimal_name : Has price (decimal price_column COLUMN_SIZE)
  pub unknown_name : Fails nobody UnknownName
  -- `not Open`, `not null`, `not Pop`; `-Pop`, `-Price`, `-null`, `-Name`
  pub not_open : Has (tree.unary Not open_now) (truth (negation (truth_column 3)))
  pub not_null : Has (tree.unary Not null) (truth (negation null_truth))
  pub not_number : Fails (tree.unary Not pop_name) Mismatch
  pub minus_integer : Has (tree.unary Negate pop_name) (integer (negated (integer_column 2)) COLUMN_SIZE)
  pub minus_decimal : Has (tree.unary Negate price) (decimal (negated price_column) COLUMN_SIZE)
  pub minus_null : Has (tree.unary Negate null) (integer (negated null_number) 0)
  pub minus_text : Fails (tree.unary Negate name) Mismatch

pub record WorkedOperators : Type 0 where
  -- `Open and true`, `null or Open`, `Open and Pop`
  pub both : Has (tree.binary (operator.Logic And) open_now yes_literal) (truth (conjunction (truth_column 3) (truth_literal true)))
  pub either : Has (tree.binary (operator.Logic Or) null open_now) (truth (disjunction null_truth (truth_column 3)))
  pub neither : Fails (tree.binary (operator.Logic And) open_now pop_name) Mismatch
  -- `Id add 1`, `Id sub Pop`, `Id mul Pop`, `Id div 2`, `Id mod 2`, `null add 1`
  pub sum : Has (arithmetic_expr Add id (number 1)) (integer (arithmetic Add (integer_column 0) (number_literal (pos 1))) 9_223_372_036_854_775_809)
  pub difference : Has (arithmetic_expr Sub id pop_name) (integer (arithmetic Sub (integer_column 0) (integer_column 2)) 18_446_744_073_709_551_616)
  pub product : Has (arithmetic_expr Mul id pop_name) (integer (arithmetic Mul (integer_column 0) (integer_column 2)) most)
  pub quotient : Has (arithmetic_expr Div id (number 2)) (integer (arithmetic Div (integer_column 0) (number_literal (pos 2))) COLUMN_SIZE)
  pub remainder : Has (arithmetic_expr Mod id (number 2)) (integer (arithmetic Mod (integer_column 0) (number_literal (pos 2))) COLUMN_SIZE)
  pub sum_with_null : Has (arithmetic_expr Add null (number 1)) (integer (arithmetic Add null_number (number_literal (pos 1))) 1)
  -- `Id mul Pop add 1`, `Name add 1`, `1 add Name`
  pub grown : Fails (arithmetic_expr Add (arithmetic_expr Mul id pop_name) (number 1)) TooLarge
  pub text_sum : Fails (arithmetic_expr Add name (number 1)) Mismatch
  pub sum_text : Fails (arithmetic_expr Add (number 1) name) Mismatch
  -- `Price add 1`, `1 sub Price`, `Price mul 2`, `2 div Price`, `Price mod 2`
  pub decimal_add : Has (arithmetic_expr Add price (number 1))
      (decimal (arithmetic Add price_column (scaled (number_literal (pos 1)))) 9_223_372_036_855_775_808)
  pub decimal_sub : Has (arithmetic_expr Sub (number 1) price)
      (decimal (arithmetic Sub (scaled (number_literal (pos 1))) price_column) 9_223_372_036_855_775_808)
  pub decimal_mul : Fails (arithmetic_expr Mul price (number 2)) Mismatch
  pub decimal_div : Fails (arithmetic_expr Div (number 2) price) Mismatch
  pub decimal_mod : Fails (arithmetic_expr Mod price (number 2)) Mismatch
  -- of two causes the left operand's comes first: `Nobody add (Name add 1)`, `(Name add 1) add Nobody`
  pub left_name : Fails (arithmetic_expr Add nobody (arithmetic_expr Add name (number 1))) UnknownName
  pub left_sum : Fails (arithmetic_expr Add (arithmetic_expr Add name (number 1)) nobody) Mismatch
  -- `Pop gt 5`, `Price le 1`, `1 lt Price`, `Name eq 'a'`, `Since ge 2024-02-29`, `Open ne true`
  pub integers : Has (comparison_tree GreaterThan pop_name (number 5)) (truth (compare_numbers GreaterThan (integer_column 2) (number_literal (pos 5))))
  pub decimals : Has (comparison_tree LessOrEqual price (number 1)) (truth (compare_numbers LessOrEqual price_column (scaled (number_literal (pos 1)))))
  pub integer_first : Has (comparison_tree LessThan (number 1) price) (truth (compare_numbers LessThan (scaled (number_literal (pos 1))) price_column))
  pub texts : Has (comparison_tree Equal name letter) (truth (compare_texts Equal (text_column 1) (text_literal (codes "a"))))
  pub dates : Has (comparison_tree GreaterOrEqual since leap_day) (truth (compare_numbers GreaterOrEqual since_number (number_literal (number_of_day (record { year = pos 2024; month = 2; day = 29 })))))
  pub truths : Has (comparison_tree NotEqual open_now yes_literal) (truth (compare_truths NotEqual (truth_column 3) (truth_literal true)))
  -- `Name eq null`, `null eq Since`, `null eq null`, `Pop eq 'a'`, `Since lt Open`
  pub text_beside_null : Has (comparison_tree Equal name null) (truth (compare_texts Equal (text_column 1) null_text))
  pub null_beside_date : Has (comparison_tree Equal null since) (truth (compare_numbers Equal null_number since_number))
  pub nulls : Has (comparison_tree Equal null null) (truth (compare_truths Equal null_truth null_truth))
  pub number_beside_text : Fails (comparison_tree Equal pop_name letter) Mismatch
  pub date_beside_truth : Fails (comparison_tree LessThan since open_now) Mismatch
  -- a number of 1 and 32 zeros beside an integer, and beside a decimal
  pub huge_integer : Has (comparison_tree LessThan id (number huge)) (truth (compare_numbers LessThan (integer_column 0) (number_literal (pos huge))))
  pub huge_decimal : Fails (comparison_tree LessThan price (number huge)) TooLarge

pub record WorkedLists : Type 0 where
  -- `Pop in (1,null)`, `Pop in (1,2.5)`, `Price in (10,2.5)`, `Name in ('a',null)`, `Since in (2024-02-29)`, `Open in (true,null)`
  pub integers : Has (tree.in_list pop_name (tree.number (pos 1) ∷ tree.null ∷ [])) (truth (number_in (integer_column 2) (Some (pos 1) ∷ None ∷ [])))
  pub mixed : Has (tree.in_list pop_name (tree.number (pos 1) ∷ tree.decimal (pos 2_500_000) ∷ []))
      (truth (number_in (scaled (integer_column 2)) (Some (pos 1_000_000) ∷ Some (pos 2_500_000) ∷ [])))
  pub decimals : Has (tree.in_list price (tree.number (pos 10) ∷ tree.decimal (pos 2_500_000) ∷ []))
      (truth (number_in price_column (Some (pos 10_000_000) ∷ Some (pos 2_500_000) ∷ [])))
  pub texts : Has (tree.in_list name (tree.text (codes "a") ∷ tree.null ∷ [])) (truth (text_in (text_column 1) (Some (codes "a") ∷ None ∷ [])))
  pub dates : Has (tree.in_list since (tree.date (pos 2024) 2 29 ∷ [])) (truth (number_in since_number (Some (number_of_day (record { year = pos 2024; month = 2; day = 29 })) ∷ [])))
  pub truths : Has (tree.in_list open_now (tree.boolean true ∷ tree.null ∷ [])) (truth (truth_in (truth_column 3) (Some true ∷ None ∷ [])))
  -- `null in (1)`, `null in (null)`
  pub null_among_integers : Has (tree.in_list null (tree.number (pos 1) ∷ [])) (truth (number_in null_number (Some (pos 1) ∷ [])))
  pub null_among_nulls : Has (tree.in_list null (tree.null ∷ [])) (truth (truth_in null_truth (None ∷ [])))
  -- `Pop in (1,'a')`, `Name in (1)`, `Nobody in (1)`, and 1 and 32 zeros among decimals
  pub text_among_integers : Fails (tree.in_list pop_name (tree.number (pos 1) ∷ tree.text (codes "a") ∷ [])) Mismatch
  pub text_in_integers : Fails (tree.in_list name (tree.number (pos 1) ∷ [])) Mismatch
  pub unknown_in_list : Fails (tree.in_list nobody (tree.number (pos 1) ∷ [])) UnknownName
  pub huge_among_decimals : Fails (tree.in_list price (tree.number (pos huge) ∷ [])) TooLarge

pub record WorkedCalls : Type 0 where
  -- `length(Name)`, `length(null)`, `year(Since)`, `month(Since)`, `day(2024-02-29)`, `length(Pop)`, `year(Name)`
  pub length : Has (tree.unary_call Length name) (integer (length_of (text_column 1)) FUNCTION_SIZE)
  pub null_length : Has (tree.unary_call Length null) (integer (length_of null_text) FUNCTION_SIZE)
  pub year : Has (tree.unary_call Year since) (integer (part_of part.Year (date_column 4)) FUNCTION_SIZE)
  pub month : Has (tree.unary_call Month since) (integer (part_of part.Month (date_column 4)) FUNCTION_SIZE)
  pub day : Has (tree.unary_call Day leap_day) (integer (part_of part.Day (date_literal leap_day_of)) FUNCTION_SIZE)
  pub number_length : Fails (tree.unary_call Length pop_name) Mismatch
  pub text_year : Fails (tree.unary_call Year name) Mismatch
  -- `contains(Name,'a')`, `startswith(Name,'a')`, `endswith(Name,null)`, `indexof(Name,'a')`, `concat('a',Name)`
  pub contains : Has (tree.binary_call Contains name letter) (truth (test_text test.Contains (text_column 1) (text_literal (codes "a"))))
  pub starts_with : Has (tree.binary_call StartsWith name letter) (truth (test_text test.StartsWith (text_column 1) (text_literal (codes "a"))))
  pub ends_with : Has (tree.binary_call EndsWith name null) (truth (test_text test.EndsWith (text_column 1) null_text))
  pub index : Has (tree.binary_call IndexOf name letter) (integer (index_of (text_column 1) (text_literal (codes "a"))) FUNCTION_SIZE)
  pub joined : Has (tree.binary_call Concat letter name) (text (concat (text_literal (codes "a")) (text_column 1)))
  -- `contains(Name,1)`, `concat(Pop,Name)`, `indexof(Name,Nobody)`
  pub number_part : Fails (tree.binary_call Contains name (number 1)) Mismatch
  pub number_joined : Fails (tree.binary_call Concat pop_name name) Mismatch
  pub unknown_part : Fails (tree.binary_call IndexOf name nobody) UnknownName

pub record WorkedTypings : Type 0 where
  pub operands : WorkedOperands
  pub operators : WorkedOperators
  pub lists : WorkedLists
  pub calls : WorkedCalls
  -- filters: `Open`, `null`, and `Pop`
  pub condition : filter_typing columns open_now ≡ Ok (truth_column 3)
  pub null_condition : filter_typing columns null ≡ Ok null_truth
  pub number_condition : filter_typing columns pop_name ≡ Err Mismatch
