-- A typed expression that is a column alone: the column is there.
use Rattle.std.proofs.Common.{◌≡◌, inl, inr, ℕ, ◌+◌, ◌<◌, Option, Some, None, Result, Ok, List, length, map, refl}
use Rattle.std.specs.Prelude.{slice_get, unsigned_abs, IfSome}
use Rattle.std.specs.List.{list_all}
use Rattle.std.proofs.lemmas.Bool.{cases_Bool}
use Rattle.odata_parse.specs.declared.tree.UnaryOperator.{UnaryOperator}
use Rattle.odata_parse.specs.declared.tree.UnaryOperator.TheVariants.{Negate, Not}
use Rattle.odata_parse.specs.declared.tree.LogicOperator.{LogicOperator}
use Rattle.odata_parse.specs.declared.tree.LogicOperator.TheVariants.{And, Or}
use Rattle.cell_types.specs.declared.comparison.ComparisonOperator.{ComparisonOperator}
use Rattle.typed_trees.specs.declared.operator.ArithmeticOperator.{ArithmeticOperator}
use Rattle.typed_trees.specs.declared.operator.ArithmeticOperator.TheVariants.{Add, Sub}
use Rattle.odata_parse.specs.declared.tree.BinaryOperator.{BinaryOperator}
use Rattle.odata_parse.specs.declared.tree.BinaryOperator.TheVariants as operator
use Rattle.odata_parse.specs.declared.tree.UnaryFunction.{UnaryFunction}
use Rattle.odata_parse.specs.declared.tree.UnaryFunction.TheVariants.{Length, Year, Month, Day}
use Rattle.odata_parse.specs.declared.tree.BinaryFunction.{BinaryFunction}
use Rattle.odata_parse.specs.declared.tree.BinaryFunction.TheVariants.{Contains, StartsWith, EndsWith, IndexOf, Concat}
use Rattle.odata_parse.specs.Tree as tree
use Rattle.odata_parse.specs.Tree.{LiteralOf, ExprOf}
use Rattle.odata_types.specs.declared.fault.TypeFault.{TypeFault}
use Rattle.cell_types.specs.declared.kind.ColumnKind.{ColumnKind}
use Rattle.cell_types.specs.declared.kind.ColumnKind.TheVariants.{Text, Number}
use Rattle.cell_types.specs.declared.kind.NumberKind.TheVariants as numbers
use Rattle.odata_types.specs.declared.types.ExprType.{ExprType}
use Rattle.odata_types.specs.declared.types.ExprType.TheVariants as kind
use Rattle.odata_types.specs.declared.types.TheConstants.{FUNCTION_SIZE}
use Rattle.typed_trees.specs.declared.tree.DatePart.{DatePart}
use Rattle.typed_trees.specs.declared.tree.DatePart.TheVariants as part
use Rattle.odata_types.specs.Columns.{InputOf}
use Rattle.odata_types.specs.Result.{◌>>=◌}
use Rattle.typed_trees.specs.TypedTree.{TypedExprOf, NumberExprOf, TextExprOf, TruthExprOf, compare_numbers, compare_texts, compare_truths, date, decimal, arithmetic, integer, length_of, negation, nothing, number_in, number_literal, part_of, text, text_in, truth, truth_in}
use Rattle.typed_trees.specs.Plain.{kind_expr}
use Rattle.odata_types.specs.Typing.{Typing, arithmetic_as, as_date, as_decimal, as_integer, as_number, as_text, as_truth, binary_call_typing, binary_typing, column_at, common_type, comparison_as, decimals_typing, computed_size, type_fits, in_typing, integers_typing, is_small, list_as, list_in_type, list_type, literal_type, literal_typing, logic_expr, number_items, part_typing, place_of, text_call, text_item, truth_item, type_of, typing, unary_call_typing, unary_typing, within}
use Rattle.query_meaning.specs.Order.{plain_column}
use Rattle.query_plan.proofs.AggregateLemmas.{place_below}
use Rattle.query_plan.proofs.TypingLemmas.{Told, told_any, told_then, told_within}

module _ (inputs : List InputOf) where
  -- where the expression is a column, this is one of the input
  abbrev pub IsThere : TypedExprOf → Type 0
  IsThere t = IfSome (plain_column t) (λ place. place < length inputs)

  -- after a step whatever it tells
  any_then : {X : Type 0} (r : Result X TypeFault) (f : X → Typing) → ((x : X) → Told IsThere (f x)) → Told IsThere (r >>= f)
  any_then r f each = told_then (λ _. Unit {0}) IsThere r f (told_any r) (λ x h. each x)

  literal_there : (v : LiteralOf) → Told IsThere (literal_typing v)
  literal_there tree.null = tt
  literal_there (tree.boolean b) = tt
  literal_there (tree.number n) = told_within IsThere (unsigned_abs n) (integer (number_literal n) (unsigned_abs n)) (λ h. tt)
  literal_there (tree.text t) = tt
  literal_there (tree.decimal n) = told_within IsThere (unsigned_abs n) (decimal (number_literal n) (unsigned_abs n)) (λ h. tt)
  literal_there (tree.date y m d) = tt

  kind_there : (place : ℕ) (kind : ColumnKind) (size : ℕ) → place < length inputs → IsThere (kind_expr place kind size)
  kind_there place (Number numbers.Integer) size h = h
  kind_there place Text size h = h
  kind_there place (Number numbers.Boolean) size h = h
  kind_there place (Number numbers.Date) size h = h
  kind_there place (Number numbers.Decimal) size h = h

  column_there : (place : ℕ) (o : Option InputOf) → slice_get inputs place ≡ o → Told IsThere (column_at place o)
  column_there place None e = tt
  column_there place (Some c) e = kind_there place c.column_type.kind c.column_type.size (place_below inputs place c e)

  unary_there : (o : UnaryOperator) (t : TypedExprOf) → Told IsThere (unary_typing o t)
  unary_there Negate (decimal e bound) = tt
  unary_there Negate nothing = tt
  unary_there Negate (integer e bound) = tt
  unary_there Negate (text e) = tt
  unary_there Negate (truth e) = tt
  unary_there Negate (date e) = tt
  unary_there Not t = any_then (as_truth t) (λ e. Ok (truth (negation e))) (λ e. tt)

  logic_there : (o : LogicOperator) (x y : TruthExprOf) → IsThere (truth (logic_expr o x y))
  logic_there And x y = tt
  logic_there Or x y = tt

  abbrev integers_within : ArithmeticOperator → NumberExprOf × ℕ → NumberExprOf × ℕ → Typing
  integers_within o x y = within (computed_size o x.1 y.1) (integer (arithmetic o x.0 y.0) (computed_size o x.1 y.1))

  integers_there : (o : ArithmeticOperator) (a b : TypedExprOf) → Told IsThere (integers_typing o a b)
  integers_there o a b =
      any_then (as_integer a) (λ x. as_integer b >>= λ y. integers_within o x y) (λ x. any_then (as_integer b) (λ y. integers_within o x y) (λ y.
      told_within IsThere (computed_size o x.1 y.1) (integer (arithmetic o x.0 y.0) (computed_size o x.1 y.1)) (λ h. tt)))

  abbrev decimals_within : ArithmeticOperator → NumberExprOf × ℕ → NumberExprOf × ℕ → Typing
  decimals_within o x y = within (computed_size o x.1 y.1) (decimal (arithmetic o x.0 y.0) (computed_size o x.1 y.1))

  decimals_there : (o : ArithmeticOperator) (a b : TypedExprOf) → Told IsThere (decimals_typing o a b)
  decimals_there o a b =
      any_then (as_decimal a) (λ x. as_decimal b >>= λ y. decimals_within o x y) (λ x. any_then (as_decimal b) (λ y. decimals_within o x y) (λ y.
      told_within IsThere (computed_size o x.1 y.1) (decimal (arithmetic o x.0 y.0) (computed_size o x.1 y.1)) (λ h. tt)))

  arithmetic_there : (type : ExprType) (o : ArithmeticOperator) (a b : TypedExprOf) → Told IsThere (arithmetic_as type o a b)
  arithmetic_there kind.Decimal Add a b = decimals_there Add a b
  arithmetic_there kind.Decimal Sub a b = decimals_there Sub a b
  arithmetic_there type o a b = integers_there o a b

  -- a truth that is made of operands
  any_truth : {X : Type 0} (r : Result X TypeFault) (f : X → Result TruthExprOf TypeFault) → ((x : X) → Told (λ e. IsThere (truth e)) (f x)) → Told (λ e. IsThere (truth e)) (r >>= f)
  any_truth r f each = told_then (λ _. Unit {0}) (λ e. IsThere (truth e)) r f (told_any r) (λ x h. each x)

  truth_there : (r : Result TruthExprOf TypeFault) → Told (λ e. IsThere (truth e)) r → Told IsThere (r >>= λ e. Ok (truth e))
  truth_there r h = told_then (λ e. IsThere (truth e)) IsThere r (λ e. Ok (truth e)) h (λ e k. k)

  truths_there : (o : ComparisonOperator) (a b : TypedExprOf) → Told (λ e. IsThere (truth e)) (as_truth a >>= λ x. as_truth b >>= λ y. Ok (compare_truths o x y))
  truths_there o a b = any_truth (as_truth a) (λ x. as_truth b >>= λ y. Ok (compare_truths o x y)) (λ x. any_truth (as_truth b) (λ y. Ok (compare_truths o x y)) (λ y. tt))

  numbers_there : (type : ExprType) (o : ComparisonOperator) (a b : TypedExprOf) → Told (λ e. IsThere (truth e)) (as_number type a >>= λ x. as_number type b >>= λ y. Ok (compare_numbers o x y))
  numbers_there type o a b =
      any_truth (as_number type a) (λ x. as_number type b >>= λ y. Ok (compare_numbers o x y)) (λ x. any_truth (as_number type b) (λ y. Ok (compare_numbers o x y)) (λ y. tt))

  comparison_there : (type : ExprType) (o : ComparisonOperator) (a b : TypedExprOf) → Told (λ e. IsThere (truth e)) (comparison_as type o a b)
  comparison_there kind.Integer o a b = numbers_there kind.Integer o a b
  comparison_there kind.Decimal o a b = numbers_there kind.Decimal o a b
  comparison_there kind.Date o a b = numbers_there kind.Date o a b
  comparison_there kind.Text o a b =
      any_truth (as_text a) (λ x. as_text b >>= λ y. Ok (compare_texts o x y)) (λ x. any_truth (as_text b) (λ y. Ok (compare_texts o x y)) (λ y. tt))
  comparison_there kind.Boolean o a b = truths_there o a b
  comparison_there kind.Null o a b = truths_there o a b

  binary_there : (o : BinaryOperator) (a b : TypedExprOf) → Told IsThere (binary_typing o a b)
  binary_there (operator.Logic o) a b =
      any_then (as_truth a) (λ x. as_truth b >>= λ y. Ok (truth (logic_expr o x y))) (λ x. any_then (as_truth b) (λ y. Ok (truth (logic_expr o x y))) (λ y. logic_there o x y))
  binary_there (operator.Comparison o) a b =
      truth_there (comparison_as (common_type (type_of a) (type_of b)) o a b) (comparison_there (common_type (type_of a) (type_of b)) o a b)
  binary_there (operator.Arithmetic o) a b = arithmetic_there (common_type (type_of a) (type_of b)) o a b

  -- ---- lists

  in_truths_there : (a : TypedExprOf) (vs : List LiteralOf) → Told (λ e. IsThere (truth e)) (as_truth a >>= λ x. Ok (truth_in x (map truth_item vs)))
  in_truths_there a vs = any_truth (as_truth a) (λ x. Ok (truth_in x (map truth_item vs))) (λ x. tt)

  in_numbers_there : (type : ExprType) (a : TypedExprOf) (vs : List LiteralOf)
      → Told (λ e. IsThere (truth e)) (as_number type a >>= λ x. number_items type vs >>= λ items. Ok (number_in x items))
  in_numbers_there type a vs =
      any_truth (as_number type a) (λ x. number_items type vs >>= λ items. Ok (number_in x items)) (λ x. any_truth (number_items type vs) (λ items. Ok (number_in x items)) (λ items. tt))

  list_there : (type : ExprType) (a : TypedExprOf) (vs : List LiteralOf) → Told (λ e. IsThere (truth e)) (list_as type a vs)
  list_there kind.Integer a vs = in_numbers_there kind.Integer a vs
  list_there kind.Decimal a vs = in_numbers_there kind.Decimal a vs
  list_there kind.Date a vs = in_numbers_there kind.Date a vs
  list_there kind.Text a vs = any_truth (as_text a) (λ x. Ok (text_in x (map text_item vs))) (λ x. tt)
  list_there kind.Boolean a vs = in_truths_there a vs
  list_there kind.Null a vs = in_truths_there a vs

  typed_list_there : (type : ExprType) (a : TypedExprOf) (vs : List LiteralOf) → Told IsThere (list_in_type type a vs)
  typed_list_there type a vs = elim (cases_Bool (list_all (λ v. type_fits type (literal_type v)) vs)) [
    | inl e ↦ rw e (truth_there (list_as type a vs) (list_there type a vs))
    | inr e ↦ rw e tt
  ]

  in_there : (a : TypedExprOf) (vs : List LiteralOf) → Told IsThere (in_typing a vs)
  in_there a vs = elim (cases_Bool (list_all is_small vs)) [ inl e ↦ rw e (typed_list_there (list_type (type_of a) vs) a vs) | inr e ↦ rw e tt ]

  -- ---- functions

  part_there : (p : DatePart) (a : TypedExprOf) → Told IsThere (part_typing p a)
  part_there p a = any_then (as_date a) (λ d. Ok (integer (part_of p d) FUNCTION_SIZE)) (λ d. tt)

  unary_call_there : (f : UnaryFunction) (a : TypedExprOf) → Told IsThere (unary_call_typing f a)
  unary_call_there Length a = any_then (as_text a) (λ t. Ok (integer (length_of t) FUNCTION_SIZE)) (λ t. tt)
  unary_call_there Year a = part_there part.Year a
  unary_call_there Month a = part_there part.Month a
  unary_call_there Day a = part_there part.Day a

  text_there : (f : BinaryFunction) (x y : TextExprOf) → IsThere (text_call f x y)
  text_there Contains x y = tt
  text_there StartsWith x y = tt
  text_there EndsWith x y = tt
  text_there IndexOf x y = tt
  text_there Concat x y = tt

  binary_call_there : (f : BinaryFunction) (a b : TypedExprOf) → Told IsThere (binary_call_typing f a b)
  binary_call_there f a b = any_then (as_text a) (λ x. as_text b >>= λ y. Ok (text_call f x y)) (λ x. any_then (as_text b) (λ y. Ok (text_call f x y)) (λ y. text_there f x y))

  -- ---- expressions

  pub expression_there : (e : ExprOf) → Told IsThere (typing inputs e)
  expression_there (tree.literal v) = literal_there v
  expression_there (tree.name n) = column_there (place_of inputs n) (slice_get inputs (place_of inputs n)) refl
  expression_there (tree.unary o a) = any_then (typing inputs a) (unary_typing o) (unary_there o)
  expression_there (tree.binary o a b) =
      any_then (typing inputs a) (λ x. typing inputs b >>= λ y. binary_typing o x y) (λ x. any_then (typing inputs b) (λ y. binary_typing o x y) (λ y. binary_there o x y))
  expression_there (tree.in_list a vs) = any_then (typing inputs a) (λ x. in_typing x vs) (λ x. in_there x vs)
  expression_there (tree.unary_call f a) = any_then (typing inputs a) (unary_call_typing f) (unary_call_there f)
  expression_there (tree.binary_call f a b) =
      any_then (typing inputs a) (λ x. typing inputs b >>= λ y. binary_call_typing f x y) (λ x. any_then (typing inputs b) (λ y. binary_call_typing f x y) (λ y. binary_call_there f x y))
