-- The grammar of expressions (OData 4.01 URL Conventions, sections 5.1.1 and 5.1.1.15; OData ABNF Construction Rules, section 4).
-- Operators bind from the tightest: `in`; `-` and `not`; `mul`, `div`, `mod`; `add`, `sub`; `gt`, `ge`, `lt`, `le`; `eq`, `ne`; `and`; `or`.
use Rattle.std.specs.Prelude.{◌≡◌, ℕ, zero, suc, List, [], ◌∷◌, codes}
use Rattle.odata_lex.specs.Token.{TokenOf}
use Rattle.odata_lex.specs.declared.token.TokenKind.TheVariants.{OpenParenthesis, CloseParenthesis, Comma, Minus}
use Rattle.odata_parse.specs.declared.tree.LogicOperator.{LogicOperator}
use Rattle.odata_parse.specs.declared.tree.LogicOperator.TheVariants.{And, Or}
use Rattle.cell_types.specs.declared.comparison.ComparisonOperator.{ComparisonOperator}
use Rattle.cell_types.specs.declared.comparison.ComparisonOperator.TheVariants.{Equal, NotEqual, GreaterThan, GreaterOrEqual, LessThan, LessOrEqual}
use Rattle.typed_trees.specs.declared.operator.ArithmeticOperator.{ArithmeticOperator}
use Rattle.typed_trees.specs.declared.operator.ArithmeticOperator.TheVariants.{Add, Sub, Mul, Div, Mod}
use Rattle.odata_parse.specs.declared.tree.BinaryOperator.{BinaryOperator}
use Rattle.odata_parse.specs.declared.tree.BinaryOperator.TheVariants.{Logic, Comparison, Arithmetic}
use Rattle.odata_parse.specs.declared.tree.UnaryOperator.{UnaryOperator}
use Rattle.odata_parse.specs.declared.tree.UnaryOperator.TheVariants.{Negate, Not}
use Rattle.odata_parse.specs.declared.tree.UnaryFunction.{UnaryFunction}
use Rattle.odata_parse.specs.declared.tree.BinaryFunction.{BinaryFunction}
use Rattle.odata_parse.specs.Keyword.{IsKeyword, IsName, operator_text, unary_function_text, binary_function_text}
use Rattle.odata_parse.specs.List.{Enclosed}
use Rattle.odata_parse.specs.Literal.{IsLiteral, ReadsLiteral}
use Rattle.odata_parse.specs.Tree.{LiteralOf, ExprOf, literal, name, unary, binary, in_list, unary_call, binary_call}

-- The levels: 0 a primary, 1 with `in`, 2 with `-` and `not`, and then the operators between two operands.
abbrev pub arithmetic_level : ArithmeticOperator → ℕ
arithmetic_level Mul = 3
arithmetic_level Div = 3
arithmetic_level Mod = 3
arithmetic_level Add = 4
arithmetic_level Sub = 4

abbrev pub comparison_level : ComparisonOperator → ℕ
comparison_level GreaterThan = 5
comparison_level GreaterOrEqual = 5
comparison_level LessThan = 5
comparison_level LessOrEqual = 5
comparison_level Equal = 6
comparison_level NotEqual = 6

abbrev pub logic_level : LogicOperator → ℕ
logic_level And = 7
logic_level Or = 8

-- how loosely an operator binds
abbrev pub level_of : BinaryOperator → ℕ
level_of (Arithmetic o) = arithmetic_level o
level_of (Comparison o) = comparison_level o
level_of (Logic o) = logic_level o

-- the level of a whole expression
abbrev pub top : ℕ
top = 8

-- a token is an operator before its operand: the sign `-` or the keyword `not`
abbrev pub IsUnaryOperator : UnaryOperator → TokenOf → Type 0
IsUnaryOperator Negate t = t.kind ≡ Minus
IsUnaryOperator Not t = IsKeyword (codes "not") t

-- `Reads l before tree after`: the tokens before are a phrase of level l, which is the tree, and then the tokens after.
-- Each constructor is a rule of the grammar. Operators of one level group to the left, and parentheses leave no node.
pub data Reads : ℕ → List TokenOf → ExprOf → List TokenOf → Type 0 where
  read_group : {o c : TokenOf} {before after : List TokenOf} {e : ExprOf} → o.kind ≡ OpenParenthesis → Reads top before e (c ∷ after) → c.kind ≡ CloseParenthesis → Reads zero (o ∷ before) e after
  read_literal : {t : TokenOf} {after : List TokenOf} {v : LiteralOf} → IsLiteral t v → Reads zero (t ∷ after) (literal v) after
  read_name : {t : TokenOf} {after : List TokenOf} {text : List ℕ} → IsName text t → Reads zero (t ∷ after) (name text) after
  read_unary_call : {t o c : TokenOf} {before after : List TokenOf} {f : UnaryFunction} {e : ExprOf} → IsKeyword (unary_function_text f) t → o.kind ≡ OpenParenthesis → Reads top before e (c ∷ after) → c.kind ≡ CloseParenthesis → Reads zero (t ∷ o ∷ before) (unary_call f e) after
  read_binary_call : {t o s c : TokenOf} {before mid after : List TokenOf} {f : BinaryFunction} {a b : ExprOf} → IsKeyword (binary_function_text f) t → o.kind ≡ OpenParenthesis → Reads top before a (s ∷ mid) → s.kind ≡ Comma → Reads top mid b (c ∷ after) → c.kind ≡ CloseParenthesis → Reads zero (t ∷ o ∷ before) (binary_call f a b) after
  read_in : {t : TokenOf} {before mid after : List TokenOf} {e : ExprOf} {vs : List LiteralOf} → Reads zero before e (t ∷ mid) → IsKeyword (codes "in") t → Enclosed ReadsLiteral Comma mid vs after → Reads (suc zero) before (in_list e vs) after
  read_unary : {t : TokenOf} {before after : List TokenOf} {o : UnaryOperator} {e : ExprOf} → IsUnaryOperator o t → Reads (suc (suc zero)) before e after → Reads (suc (suc zero)) (t ∷ before) (unary o e) after
  read_binary : {l : ℕ} {t : TokenOf} {before mid after : List TokenOf} {o : BinaryOperator} {a b : ExprOf} → Reads (suc l) before a (t ∷ mid) → IsKeyword (operator_text o) t → level_of o ≡ suc l → Reads l mid b after → Reads (suc l) before (binary o a b) after
  read_tighter : {l : ℕ} {before after : List TokenOf} {e : ExprOf} → Reads l before e after → Reads (suc l) before e after

-- `$filter`: all the tokens are an expression (OData 4.01 URL Conventions, section 5.1.1)
abbrev pub IsFilter : List TokenOf → ExprOf → Type 0
IsFilter tokens e = Reads top tokens e []
