-- Keywords that are spelled alike are one.
use Rattle.std.proofs.Common.{◌≡◌, ℕ, List, Option, Some, None, codes, refl, sym, ap, ◌∙◌}
use Rattle.std.specs.Prelude.{if◌then◌else◌}
use Rattle.std.specs.Str.{bytes_eq}
use Rattle.odata_parse.specs.declared.tree.LogicOperator.TheVariants.{And, Or}
use Rattle.cell_types.specs.declared.comparison.ComparisonOperator.TheVariants.{Equal, NotEqual, GreaterThan, GreaterOrEqual, LessThan, LessOrEqual}
use Rattle.typed_trees.specs.declared.operator.ArithmeticOperator.TheVariants.{Add, Sub, Mul, Div, Mod}
use Rattle.odata_parse.specs.declared.tree.BinaryOperator.{BinaryOperator}
use Rattle.odata_parse.specs.declared.tree.BinaryOperator.TheVariants.{Logic, Comparison, Arithmetic}
use Rattle.odata_parse.specs.declared.tree.UnaryFunction.{UnaryFunction}
use Rattle.odata_parse.specs.declared.tree.UnaryFunction.TheVariants.{Length, Year, Month, Day}
use Rattle.odata_parse.specs.declared.tree.BinaryFunction.{BinaryFunction}
use Rattle.odata_parse.specs.declared.tree.BinaryFunction.TheVariants.{Contains, StartsWith, EndsWith, IndexOf, Concat}
use Rattle.odata_parse.specs.declared.tree.AggregationMethod.{AggregationMethod}
use Rattle.odata_parse.specs.declared.tree.AggregationMethod.TheVariants.{Sum, Min, Max, CountDistinct}
use Rattle.odata_parse.specs.Keyword.{operator_text, unary_function_text, binary_function_text, method_text}

-- all keywords
pub data Keyword : Type 0 where
  operator : BinaryOperator → Keyword
  unary_function : UnaryFunction → Keyword
  binary_function : BinaryFunction → Keyword
  method : AggregationMethod → Keyword
  in_word not_word true_word false_word null_word asc_word desc_word filter_word aggregate_word groupby_word : Keyword

abbrev pub keyword_text : Keyword → List ℕ
keyword_text (operator o) = operator_text o
keyword_text (unary_function f) = unary_function_text f
keyword_text (binary_function f) = binary_function_text f
keyword_text (method m) = method_text m
keyword_text in_word = codes "in"
keyword_text not_word = codes "not"
keyword_text true_word = codes "true"
keyword_text false_word = codes "false"
keyword_text null_word = codes "null"
keyword_text asc_word = codes "asc"
keyword_text desc_word = codes "desc"
keyword_text filter_word = codes "filter"
keyword_text aggregate_word = codes "aggregate"
keyword_text groupby_word = codes "groupby"

-- the keyword of a text
keyword_of : List ℕ → Option Keyword
keyword_of w =
    if bytes_eq w (codes "and") then Some (operator (Logic And)) else (
    if bytes_eq w (codes "or") then Some (operator (Logic Or)) else (
    if bytes_eq w (codes "eq") then Some (operator (Comparison Equal)) else (
    if bytes_eq w (codes "ne") then Some (operator (Comparison NotEqual)) else (
    if bytes_eq w (codes "gt") then Some (operator (Comparison GreaterThan)) else (
    if bytes_eq w (codes "ge") then Some (operator (Comparison GreaterOrEqual)) else (
    if bytes_eq w (codes "lt") then Some (operator (Comparison LessThan)) else (
    if bytes_eq w (codes "le") then Some (operator (Comparison LessOrEqual)) else (
    if bytes_eq w (codes "add") then Some (operator (Arithmetic Add)) else (
    if bytes_eq w (codes "sub") then Some (operator (Arithmetic Sub)) else (
    if bytes_eq w (codes "mul") then Some (operator (Arithmetic Mul)) else (
    if bytes_eq w (codes "div") then Some (operator (Arithmetic Div)) else (
    if bytes_eq w (codes "mod") then Some (operator (Arithmetic Mod)) else (
    if bytes_eq w (codes "length") then Some (unary_function Length) else (
    if bytes_eq w (codes "year") then Some (unary_function Year) else (
    if bytes_eq w (codes "month") then Some (unary_function Month) else (
    if bytes_eq w (codes "day") then Some (unary_function Day) else (
    if bytes_eq w (codes "contains") then Some (binary_function Contains) else (
    if bytes_eq w (codes "startswith") then Some (binary_function StartsWith) else (
    if bytes_eq w (codes "endswith") then Some (binary_function EndsWith) else (
    if bytes_eq w (codes "indexof") then Some (binary_function IndexOf) else (
    if bytes_eq w (codes "concat") then Some (binary_function Concat) else (
    if bytes_eq w (codes "sum") then Some (method Sum) else (
    if bytes_eq w (codes "min") then Some (method Min) else (
    if bytes_eq w (codes "max") then Some (method Max) else (
    if bytes_eq w (codes "countdistinct") then Some (method CountDistinct) else (
    if bytes_eq w (codes "in") then Some (in_word) else (
    if bytes_eq w (codes "not") then Some (not_word) else (
    if bytes_eq w (codes "true") then Some (true_word) else (
    if bytes_eq w (codes "false") then Some (false_word) else (
    if bytes_eq w (codes "null") then Some (null_word) else (
    if bytes_eq w (codes "asc") then Some (asc_word) else (
    if bytes_eq w (codes "desc") then Some (desc_word) else (
    if bytes_eq w (codes "filter") then Some (filter_word) else (
    if bytes_eq w (codes "aggregate") then Some (aggregate_word) else (
    if bytes_eq w (codes "groupby") then Some (groupby_word) else (
    None))))))))))))))))))))))))))))))))))))

keyword_of_text : (k : Keyword) → keyword_of (keyword_text k) ≡ Some k
unfolding keyword_of
keyword_of_text (operator (Logic And)) = refl
keyword_of_text (operator (Logic Or)) = refl
keyword_of_text (operator (Comparison Equal)) = refl
keyword_of_text (operator (Comparison NotEqual)) = refl
keyword_of_text (operator (Comparison GreaterThan)) = refl
keyword_of_text (operator (Comparison GreaterOrEqual)) = refl
keyword_of_text (operator (Comparison LessThan)) = refl
keyword_of_text (operator (Comparison LessOrEqual)) = refl
keyword_of_text (operator (Arithmetic Add)) = refl
keyword_of_text (operator (Arithmetic Sub)) = refl
keyword_of_text (operator (Arithmetic Mul)) = refl
keyword_of_text (operator (Arithmetic Div)) = refl
keyword_of_text (operator (Arithmetic Mod)) = refl
keyword_of_text (unary_function Length) = refl
keyword_of_text (unary_function Year) = refl
keyword_of_text (unary_function Month) = refl
keyword_of_text (unary_function Day) = refl
keyword_of_text (binary_function Contains) = refl
keyword_of_text (binary_function StartsWith) = refl
keyword_of_text (binary_function EndsWith) = refl
keyword_of_text (binary_function IndexOf) = refl
keyword_of_text (binary_function Concat) = refl
keyword_of_text (method Sum) = refl
keyword_of_text (method Min) = refl
keyword_of_text (method Max) = refl
keyword_of_text (method CountDistinct) = refl
keyword_of_text in_word = refl
keyword_of_text not_word = refl
keyword_of_text true_word = refl
keyword_of_text false_word = refl
keyword_of_text null_word = refl
keyword_of_text asc_word = refl
keyword_of_text desc_word = refl
keyword_of_text filter_word = refl
keyword_of_text aggregate_word = refl
keyword_of_text groupby_word = refl

-- a text is one keyword
pub one_keyword : {text : List ℕ} (j k : Keyword) → text ≡ keyword_text j → text ≡ keyword_text k → j ≡ k
one_keyword j k h e = let s : Some j ≡ Some k = sym (keyword_of_text j) ∙ ap keyword_of (sym h ∙ e) ∙ keyword_of_text k in cc
