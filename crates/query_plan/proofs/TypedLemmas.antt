-- An expression that was typed compares columns as what they are.
use Rattle.std.proofs.Common.{◌≡◌, inl, inr, ℕ, Result, Ok, Option, Some, None, List, refl, ap}
use Rattle.std.specs.Prelude.{◌+◌, ◌*◌, option_map, slice_get, unsigned_abs}
use Rattle.std.specs.List.{list_all}
use Rattle.std.proofs.lemmas.Bool.{cases_Bool}
use Rattle.typed_trees.specs.declared.operator.ArithmeticOperator.{ArithmeticOperator}
use Rattle.typed_trees.specs.declared.operator.ArithmeticOperator.TheVariants as arithmetic
use Rattle.odata_parse.specs.declared.tree.BinaryFunction.{BinaryFunction}
use Rattle.odata_parse.specs.declared.tree.BinaryFunction.TheVariants as function
use Rattle.odata_parse.specs.declared.tree.BinaryOperator.{BinaryOperator}
use Rattle.odata_parse.specs.declared.tree.BinaryOperator.TheVariants as operator
use Rattle.odata_parse.specs.declared.tree.LogicOperator.{LogicOperator}
use Rattle.odata_parse.specs.declared.tree.LogicOperator.TheVariants.{And, Or}
use Rattle.cell_types.specs.declared.comparison.ComparisonOperator.{ComparisonOperator}
use Rattle.odata_parse.specs.declared.tree.UnaryFunction.{UnaryFunction}
use Rattle.odata_parse.specs.declared.tree.UnaryFunction.TheVariants as unary
use Rattle.odata_parse.specs.declared.tree.UnaryOperator.{UnaryOperator}
use Rattle.odata_parse.specs.declared.tree.UnaryOperator.TheVariants.{Negate, Not}
use Rattle.odata_parse.specs.Tree as tree
use Rattle.odata_parse.specs.Tree.{ExprOf, LiteralOf}
use Rattle.odata_types.specs.declared.fault.TypeFault.{TypeFault}
use Rattle.cell_types.specs.declared.kind.ColumnKind.{ColumnKind}
use Rattle.cell_types.specs.declared.kind.ColumnKind.TheVariants.{Text, Number}
use Rattle.cell_types.specs.declared.kind.NumberKind.TheVariants as numbers
use Rattle.odata_types.specs.declared.types.ExprType.{ExprType}
use Rattle.odata_types.specs.declared.types.ExprType.TheVariants as kind
use Rattle.typed_trees.specs.declared.tree.DatePart.{DatePart}
use Rattle.typed_trees.specs.declared.tree.DatePart.TheVariants as part
use Rattle.odata_types.specs.Columns.{InputOf}
use Rattle.odata_types.specs.Result.{◌>>=◌}
use Rattle.typed_trees.specs.TypedTree as typed
use Rattle.typed_trees.specs.TypedTree.{TextExprOf, TruthExprOf, TypedExprOf, number_of_date}
use Rattle.typed_trees.specs.declared.tree.TheConstants.{MILLIONTHS}
use Rattle.odata_types.specs.declared.types.TheConstants.{FUNCTION_SIZE}
use Rattle.typed_trees.specs.Plain.{kind_expr}
use Rattle.odata_types.specs.Typing.{arithmetic_as, as_date, as_decimal, as_integer, as_number, as_text, as_truth, binary_call_typing, binary_typing, column_at, column_expr, common_type, comparison_as, comparison_typing, computed_size, decimals_typing, filter_typing, in_typing, integers_typing, is_small, list_as, list_in_type, list_type, literal_type, literal_typing, logic_expr, logic_typing, number_items, part_typing, place_of, text_call, type_fits, type_of, typing, unary_call_typing, unary_typing}
use Rattle.query_plan.specs.Types.{IsNumberOver, IsTextOver, IsTruthOver, column_kind}
use Rattle.query_plan.proofs.TypingLemmas.{Told, told_any, told_then, told_within}

-- an expression of any type
abbrev pub IsOver : List InputOf → TypedExprOf → Type 0
IsOver inputs typed.nothing = Unit {0}
IsOver inputs (typed.integer e bound) = IsNumberOver inputs e
IsOver inputs (typed.text e) = IsTextOver inputs e
IsOver inputs (typed.truth e) = IsTruthOver inputs e
IsOver inputs (typed.date e) = IsNumberOver inputs (number_of_date e)
IsOver inputs (typed.decimal e bound) = IsNumberOver inputs e

module _ (inputs : List InputOf) where
  integer_over : (x : TypedExprOf) → IsOver inputs x → Told (λ n. IsNumberOver inputs n.0) (as_integer x)
  integer_over typed.nothing h = tt
  integer_over (typed.integer e bound) h = h
  integer_over x h = tt

  text_over : (x : TypedExprOf) → IsOver inputs x → Told (IsTextOver inputs) (as_text x)
  text_over typed.nothing h = tt
  text_over (typed.text e) h = h
  text_over x h = tt

  date_over : (x : TypedExprOf) → IsOver inputs x → Told (λ d. IsNumberOver inputs (number_of_date d)) (as_date x)
  date_over typed.nothing h = tt
  date_over (typed.date e) h = h
  date_over x h = tt

  truth_over : (x : TypedExprOf) → IsOver inputs x → Told (IsTruthOver inputs) (as_truth x)
  truth_over typed.nothing h = tt
  truth_over (typed.truth e) h = h
  truth_over x h = tt

  decimal_over : (x : TypedExprOf) → IsOver inputs x → Told (λ n. IsNumberOver inputs n.0) (as_decimal x)
  decimal_over typed.nothing h = tt
  decimal_over (typed.integer e bound) h = told_within (λ n. IsNumberOver inputs n.0) (bound * MILLIONTHS) (typed.scaled e, bound * MILLIONTHS) (λ few. tt)
  decimal_over (typed.decimal e bound) h = h
  decimal_over x h = tt

  integer_number : (x : TypedExprOf) → IsOver inputs x → Told (IsNumberOver inputs) (as_integer x >>= λ n. Ok n.0)
  integer_number x h = told_then (λ n. IsNumberOver inputs n.0) (IsNumberOver inputs) (as_integer x) (λ n. Ok n.0) (integer_over x h) (λ n over. over)

  number_over : (type : ExprType) (x : TypedExprOf) → IsOver inputs x → Told (IsNumberOver inputs) (as_number type x)
  number_over kind.Decimal x h = told_then (λ n. IsNumberOver inputs n.0) (IsNumberOver inputs) (as_decimal x) (λ n. Ok n.0) (decimal_over x h) (λ n over. over)
  number_over kind.Date x h = told_then (λ d. IsNumberOver inputs (number_of_date d)) (IsNumberOver inputs) (as_date x) (λ d. Ok (number_of_date d)) (date_over x h) (λ d over. over)
  number_over type x h = integer_number x h

  -- ---- columns and literals

  kind_over : (place : ℕ) (kind : ColumnKind) (size : ℕ) → column_kind inputs place ≡ Some (type_of (kind_expr place kind size)) → IsOver inputs (kind_expr place kind size)
  kind_over place (Number numbers.Integer) size h = h
  kind_over place Text size h = h
  kind_over place (Number numbers.Boolean) size h = h
  kind_over place (Number numbers.Date) size h = h
  kind_over place (Number numbers.Decimal) size h = h

  name_over : (place : ℕ) (c : Option InputOf) → slice_get inputs place ≡ c → Told (IsOver inputs) (column_at place c)
  name_over place None e = tt
  name_over place (Some c) e = kind_over place c.column_type.kind c.column_type.size (ap (option_map (λ (c : InputOf). type_of (column_expr place c.column_type))) e)

  literal_over : (v : LiteralOf) → Told (IsOver inputs) (literal_typing v)
  literal_over tree.null = tt
  literal_over (tree.boolean b) = tt
  literal_over (tree.number n) = told_within (IsOver inputs) (unsigned_abs n) (typed.integer (typed.number_literal n) (unsigned_abs n)) (λ few. tt)
  literal_over (tree.text t) = tt
  literal_over (tree.decimal n) = told_within (IsOver inputs) (unsigned_abs n) (typed.decimal (typed.number_literal n) (unsigned_abs n)) (λ few. tt)
  literal_over (tree.date y m d) = tt

  -- ---- operators

  opposite_over : (x : TypedExprOf) → Told (IsOver inputs) (as_integer x >>= λ n. Ok (typed.integer (typed.negated n.0) n.1))
  opposite_over x = told_then (λ n. Unit {0}) (IsOver inputs) (as_integer x) (λ n. Ok (typed.integer (typed.negated n.0) n.1)) (told_any (as_integer x)) (λ n h. tt)

  unary_over : (o : UnaryOperator) (x : TypedExprOf) → Told (IsOver inputs) (unary_typing o x)
  unary_over Negate (typed.decimal e bound) = tt
  unary_over Negate x = opposite_over x
  unary_over Not x = told_then (λ e. Unit {0}) (IsOver inputs) (as_truth x) (λ e. Ok (typed.truth (typed.negation e))) (told_any (as_truth x)) (λ e h. tt)

  logic_is : (o : LogicOperator) (x y : TruthExprOf) → IsTruthOver inputs x → IsTruthOver inputs y → IsTruthOver inputs (logic_expr o x y)
  logic_is And x y h k = (h, k)
  logic_is Or x y h k = tt

  logic_over : (o : LogicOperator) (a b : TypedExprOf) → IsOver inputs a → IsOver inputs b → Told (IsOver inputs) (logic_typing o a b)
  logic_over o a b h k =
      told_then (IsTruthOver inputs) (IsOver inputs) (as_truth a) (λ x. as_truth b >>= λ y. Ok (typed.truth (logic_expr o x y))) (truth_over a h)
      (λ x left. told_then (IsTruthOver inputs) (IsOver inputs) (as_truth b) (λ y. Ok (typed.truth (logic_expr o x y))) (truth_over b k) (λ y right. logic_is o x y left right))

  -- two operands of one type, compared
  pair_over : {X : Type 0} (P : X → Type 0) (make : X → X → TruthExprOf) (a b : Result X TypeFault) → Told P a → Told P b
      → ((x y : X) → P x → P y → IsTruthOver inputs (make x y)) → Told (IsTruthOver inputs) (a >>= λ x. b >>= λ y. Ok (make x y))
  pair_over P make a b h k each =
      told_then P (IsTruthOver inputs) a (λ x. b >>= λ y. Ok (make x y)) h (λ x left. told_then P (IsTruthOver inputs) b (λ y. Ok (make x y)) k (λ y right. each x y left right))

  truths_over : (o : ComparisonOperator) (a b : TypedExprOf) → IsOver inputs a → IsOver inputs b
      → Told (IsTruthOver inputs) (as_truth a >>= λ x. as_truth b >>= λ y. Ok (typed.compare_truths o x y))
  truths_over o a b h k = pair_over (IsTruthOver inputs) (typed.compare_truths o) (as_truth a) (as_truth b) (truth_over a h) (truth_over b k) (λ x y left right. (left, right))

  numbers_over : (type : ExprType) (o : ComparisonOperator) (a b : TypedExprOf) → IsOver inputs a → IsOver inputs b
      → Told (IsTruthOver inputs) (as_number type a >>= λ x. as_number type b >>= λ y. Ok (typed.compare_numbers o x y))
  numbers_over type o a b h k =
      pair_over (IsNumberOver inputs) (typed.compare_numbers o) (as_number type a) (as_number type b) (number_over type a h) (number_over type b k) (λ x y left right. (left, right))

  comparison_is : (type : ExprType) (o : ComparisonOperator) (a b : TypedExprOf) → IsOver inputs a → IsOver inputs b → Told (IsTruthOver inputs) (comparison_as type o a b)
  comparison_is kind.Text o a b h k = pair_over (IsTextOver inputs) (typed.compare_texts o) (as_text a) (as_text b) (text_over a h) (text_over b k) (λ x y left right. (left, right))
  comparison_is kind.Integer o a b h k = numbers_over kind.Integer o a b h k
  comparison_is kind.Decimal o a b h k = numbers_over kind.Decimal o a b h k
  comparison_is kind.Date o a b h k = numbers_over kind.Date o a b h k
  comparison_is kind.Null o a b h k = truths_over o a b h k
  comparison_is kind.Boolean o a b h k = truths_over o a b h k

  comparison_over : (o : ComparisonOperator) (a b : TypedExprOf) → IsOver inputs a → IsOver inputs b → Told (IsOver inputs) (comparison_typing o a b)
  comparison_over o a b h k =
      told_then (IsTruthOver inputs) (IsOver inputs) (comparison_as (common_type (type_of a) (type_of b)) o a b) (λ e. Ok (typed.truth e))
      (comparison_is (common_type (type_of a) (type_of b)) o a b h k) (λ e over. over)

  integers_over : (o : ArithmeticOperator) (a b : TypedExprOf) → Told (IsOver inputs) (integers_typing o a b)
  integers_over o a b =
      told_then (λ x. Unit {0}) (IsOver inputs) (as_integer a) _ (told_any (as_integer a))
      (λ x h. told_then (λ y. Unit {0}) (IsOver inputs) (as_integer b) _ (told_any (as_integer b))
      (λ y k. told_within (IsOver inputs) (computed_size o x.1 y.1) (typed.integer (typed.arithmetic o x.0 y.0) (computed_size o x.1 y.1)) (λ few. tt)))

  decimals_over : (o : ArithmeticOperator) (a b : TypedExprOf) → Told (IsOver inputs) (decimals_typing o a b)
  decimals_over o a b =
      told_then (λ x. Unit {0}) (IsOver inputs) (as_decimal a) _ (told_any (as_decimal a))
      (λ x h. told_then (λ y. Unit {0}) (IsOver inputs) (as_decimal b) _ (told_any (as_decimal b))
      (λ y k. told_within (IsOver inputs) (computed_size o x.1 y.1) (typed.decimal (typed.arithmetic o x.0 y.0) (computed_size o x.1 y.1)) (λ few. tt)))

  arithmetic_over : (type : ExprType) (o : ArithmeticOperator) (a b : TypedExprOf) → Told (IsOver inputs) (arithmetic_as type o a b)
  arithmetic_over kind.Decimal arithmetic.Add a b = decimals_over arithmetic.Add a b
  arithmetic_over kind.Decimal arithmetic.Sub a b = decimals_over arithmetic.Sub a b
  arithmetic_over type o a b = integers_over o a b

  binary_over : (o : BinaryOperator) (a b : TypedExprOf) → IsOver inputs a → IsOver inputs b → Told (IsOver inputs) (binary_typing o a b)
  binary_over (operator.Logic o) a b h k = logic_over o a b h k
  binary_over (operator.Comparison o) a b h k = comparison_over o a b h k
  binary_over (operator.Arithmetic o) a b h k = arithmetic_over (common_type (type_of a) (type_of b)) o a b

  -- ---- lists and functions

  -- no list has sides to compare
  number_list_over : (type : ExprType) (a : TypedExprOf) (vs : List LiteralOf) → Told (IsTruthOver inputs) (as_number type a >>= λ x. number_items type vs >>= λ items. Ok (typed.number_in x items))
  number_list_over type a vs =
      told_then (λ x. Unit {0}) (IsTruthOver inputs) (as_number type a) _ (told_any (as_number type a))
      (λ x h. told_then (λ items. Unit {0}) (IsTruthOver inputs) (number_items type vs) (λ items. Ok (typed.number_in x items)) (told_any (number_items type vs)) (λ items k. tt))

  list_over : (type : ExprType) (a : TypedExprOf) (vs : List LiteralOf) → Told (IsTruthOver inputs) (list_as type a vs)
  list_over kind.Integer a vs = number_list_over kind.Integer a vs
  list_over kind.Decimal a vs = number_list_over kind.Decimal a vs
  list_over kind.Date a vs = number_list_over kind.Date a vs
  list_over kind.Text a vs = told_then (λ x. Unit {0}) (IsTruthOver inputs) (as_text a) _ (told_any (as_text a)) (λ x h. tt)
  list_over kind.Null a vs = told_then (λ x. Unit {0}) (IsTruthOver inputs) (as_truth a) _ (told_any (as_truth a)) (λ x h. tt)
  list_over kind.Boolean a vs = told_then (λ x. Unit {0}) (IsTruthOver inputs) (as_truth a) _ (told_any (as_truth a)) (λ x h. tt)

  list_type_over : (type : ExprType) (a : TypedExprOf) (vs : List LiteralOf) → Told (IsOver inputs) (list_in_type type a vs)
  list_type_over type a vs = elim (cases_Bool (list_all (λ v. type_fits type (literal_type v)) vs)) [
    | inl e ↦ rw e (told_then (IsTruthOver inputs) (IsOver inputs) (list_as type a vs) (λ e. Ok (typed.truth e)) (list_over type a vs) (λ e over. over))
    | inr e ↦ rw e tt
  ]

  in_over : (a : TypedExprOf) (vs : List LiteralOf) → Told (IsOver inputs) (in_typing a vs)
  in_over a vs = elim (cases_Bool (list_all is_small vs)) [ inl e ↦ rw e (list_type_over (list_type (type_of a) vs) a vs) | inr e ↦ rw e tt ]

  date_call_over : (part : DatePart) (a : TypedExprOf) → Told (IsOver inputs) (part_typing part a)
  date_call_over part a = told_then (λ d. Unit {0}) (IsOver inputs) (as_date a) (λ d. Ok (typed.integer (typed.part_of part d) FUNCTION_SIZE)) (told_any (as_date a)) (λ d h. tt)

  unary_call_over : (f : UnaryFunction) (a : TypedExprOf) → Told (IsOver inputs) (unary_call_typing f a)
  unary_call_over unary.Length a = told_then (λ t. Unit {0}) (IsOver inputs) (as_text a) (λ t. Ok (typed.integer (typed.length_of t) FUNCTION_SIZE)) (told_any (as_text a)) (λ t h. tt)
  unary_call_over unary.Year a = date_call_over part.Year a
  unary_call_over unary.Month a = date_call_over part.Month a
  unary_call_over unary.Day a = date_call_over part.Day a

  text_call_over : (f : BinaryFunction) (x y : TextExprOf) → IsOver inputs (text_call f x y)
  text_call_over function.Contains x y = tt
  text_call_over function.StartsWith x y = tt
  text_call_over function.EndsWith x y = tt
  text_call_over function.IndexOf x y = tt
  text_call_over function.Concat x y = tt

  binary_call_over : (f : BinaryFunction) (a b : TypedExprOf) → Told (IsOver inputs) (binary_call_typing f a b)
  binary_call_over f a b =
      told_then (λ x. Unit {0}) (IsOver inputs) (as_text a) (λ x. as_text b >>= λ y. Ok (text_call f x y)) (told_any (as_text a))
      (λ x h. told_then (λ y. Unit {0}) (IsOver inputs) (as_text b) (λ y. Ok (text_call f x y)) (told_any (as_text b)) (λ y k. text_call_over f x y))

  -- ---- expressions

  pub over : (e : ExprOf) → Told (IsOver inputs) (typing inputs e)
  over (tree.literal v) = literal_over v
  over (tree.name n) = name_over (place_of inputs n) (slice_get inputs (place_of inputs n)) refl
  over (tree.unary o a) = told_then (IsOver inputs) (IsOver inputs) (typing inputs a) (unary_typing o) (over a) (λ x h. unary_over o x)
  over (tree.binary o a b) =
      told_then (IsOver inputs) (IsOver inputs) (typing inputs a) (λ x. typing inputs b >>= λ y. binary_typing o x y) (over a)
      (λ x h. told_then (IsOver inputs) (IsOver inputs) (typing inputs b) (λ y. binary_typing o x y) (over b) (λ y k. binary_over o x y h k))
  over (tree.in_list a vs) = told_then (IsOver inputs) (IsOver inputs) (typing inputs a) (λ x. in_typing x vs) (over a) (λ x h. in_over x vs)
  over (tree.unary_call f a) = told_then (IsOver inputs) (IsOver inputs) (typing inputs a) (unary_call_typing f) (over a) (λ x h. unary_call_over f x)
  over (tree.binary_call f a b) =
      told_then (IsOver inputs) (IsOver inputs) (typing inputs a) (λ x. typing inputs b >>= λ y. binary_call_typing f x y) (over a)
      (λ x h. told_then (IsOver inputs) (IsOver inputs) (typing inputs b) (λ y. binary_call_typing f x y) (over b) (λ y k. binary_call_over f x y))

  pub filter_over : (e : ExprOf) → Told (IsTruthOver inputs) (filter_typing inputs e)
  filter_over e = told_then (IsOver inputs) (IsTruthOver inputs) (typing inputs e) as_truth (over e) truth_over
