-- The keywords of expressions and query options (OData 4.01 URL Conventions, section 5.1.1: services read them in any case).
use Rattle.std.specs.Prelude.{◌≡◌, ◌≢◌, ℕ, List, map, codes}
use Rattle.std.specs.Char.{to_ascii_lowercase}
use Rattle.odata_lex.specs.Token.{TokenOf}
use Rattle.odata_lex.specs.declared.token.TokenKind.TheVariants.{Word}
use Rattle.odata_parse.specs.declared.tree.LogicOperator.{LogicOperator}
use Rattle.odata_parse.specs.declared.tree.LogicOperator.TheVariants.{And, Or}
use Rattle.cell_types.specs.declared.comparison.ComparisonOperator.{ComparisonOperator}
use Rattle.cell_types.specs.declared.comparison.ComparisonOperator.TheVariants.{Equal, NotEqual, GreaterThan, GreaterOrEqual, LessThan, LessOrEqual}
use Rattle.typed_trees.specs.declared.operator.ArithmeticOperator.{ArithmeticOperator}
use Rattle.typed_trees.specs.declared.operator.ArithmeticOperator.TheVariants.{Add, Sub, Mul, Div, Mod}
use Rattle.odata_parse.specs.declared.tree.BinaryOperator.{BinaryOperator}
use Rattle.odata_parse.specs.declared.tree.BinaryOperator.TheVariants.{Logic, Comparison, Arithmetic}
use Rattle.odata_parse.specs.declared.tree.UnaryFunction.{UnaryFunction}
use Rattle.odata_parse.specs.declared.tree.UnaryFunction.TheVariants.{Length, Year, Month, Day}
use Rattle.odata_parse.specs.declared.tree.BinaryFunction.{BinaryFunction}
use Rattle.odata_parse.specs.declared.tree.BinaryFunction.TheVariants.{Contains, StartsWith, EndsWith, IndexOf, Concat}
use Rattle.odata_parse.specs.declared.tree.AggregationMethod.{AggregationMethod}
use Rattle.odata_parse.specs.declared.tree.AggregationMethod.TheVariants.{Sum, Min, Max, CountDistinct}

-- a text in lowercase letters of ASCII
abbrev pub lower : List ℕ → List ℕ
lower text = map to_ascii_lowercase text

-- a token is a keyword, in any ASCII case
pub record IsKeyword (keyword : List ℕ) (t : TokenOf) : Type 0 where
  pub is_word : t.kind ≡ Word
  pub spelled : lower t.text ≡ keyword

-- a token is a name: a Word other than `true`, `false`, `null` and `not`, which may be a keyword
pub record IsName (text : List ℕ) (t : TokenOf) : Type 0 where
  pub is_word : t.kind ≡ Word
  pub spelled : text ≡ t.text
  pub not_true : lower t.text ≢ codes "true"
  pub not_false : lower t.text ≢ codes "false"
  pub not_null : lower t.text ≢ codes "null"
  pub not_not : lower t.text ≢ codes "not"

abbrev pub logic_text : LogicOperator → List ℕ
logic_text And = codes "and"
logic_text Or = codes "or"

abbrev pub comparison_text : ComparisonOperator → List ℕ
comparison_text Equal = codes "eq"
comparison_text NotEqual = codes "ne"
comparison_text GreaterThan = codes "gt"
comparison_text GreaterOrEqual = codes "ge"
comparison_text LessThan = codes "lt"
comparison_text LessOrEqual = codes "le"

abbrev pub arithmetic_text : ArithmeticOperator → List ℕ
arithmetic_text Add = codes "add"
arithmetic_text Sub = codes "sub"
arithmetic_text Mul = codes "mul"
arithmetic_text Div = codes "div"
arithmetic_text Mod = codes "mod"

-- the keyword of an operator
abbrev pub operator_text : BinaryOperator → List ℕ
operator_text (Logic o) = logic_text o
operator_text (Comparison o) = comparison_text o
operator_text (Arithmetic o) = arithmetic_text o

abbrev pub unary_function_text : UnaryFunction → List ℕ
unary_function_text Length = codes "length"
unary_function_text Year = codes "year"
unary_function_text Month = codes "month"
unary_function_text Day = codes "day"

abbrev pub binary_function_text : BinaryFunction → List ℕ
binary_function_text Contains = codes "contains"
binary_function_text StartsWith = codes "startswith"
binary_function_text EndsWith = codes "endswith"
binary_function_text IndexOf = codes "indexof"
binary_function_text Concat = codes "concat"

abbrev pub method_text : AggregationMethod → List ℕ
method_text Sum = codes "sum"
method_text Min = codes "min"
method_text Max = codes "max"
method_text CountDistinct = codes "countdistinct"
