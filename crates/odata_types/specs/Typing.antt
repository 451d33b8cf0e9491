-- The type of an expression, the bound of its numbers, and its typed tree; or the first cause why it has none (OData 4.01 URL
-- Conventions, section 5.1.1; OData ABNF Construction Rules, section 4). Operands come before their node, from left to right; at a node a mismatch of
-- types comes before a number that may grow too large.
use Rattle.std.specs.Prelude.{ℕ, ℤ, ◌+◌, ◌*◌, Bool, true, false, List, [], ◌∷◌, map, nat_le, if◌then◌else◌, Option, Some, None, Result, Ok, Err, slice_get, pos, ◌*ℤ◌, unsigned_abs}
use Rattle.std.specs.List.{position_or_len, list_all}
use Rattle.std.specs.Str.{bytes_eq}
use Rattle.odata_parse.specs.declared.tree.UnaryOperator.{UnaryOperator}
use Rattle.odata_parse.specs.declared.tree.UnaryOperator.TheVariants.{Negate, Not}
use Rattle.odata_parse.specs.declared.tree.LogicOperator.{LogicOperator}
use Rattle.odata_parse.specs.declared.tree.LogicOperator.TheVariants.{And, Or}
use Rattle.cell_types.specs.declared.comparison.ComparisonOperator.{ComparisonOperator}
use Rattle.typed_trees.specs.declared.operator.ArithmeticOperator.{ArithmeticOperator}
use Rattle.typed_trees.specs.declared.operator.ArithmeticOperator.TheVariants.{Add, Sub, Mul, Div, Mod}
use Rattle.odata_parse.specs.declared.tree.BinaryOperator.{BinaryOperator}
use Rattle.odata_parse.specs.declared.tree.BinaryOperator.TheVariants as operator
use Rattle.odata_parse.specs.declared.tree.UnaryFunction.{UnaryFunction}
use Rattle.odata_parse.specs.declared.tree.UnaryFunction.TheVariants.{Length, Year, Month, Day}
use Rattle.odata_parse.specs.declared.tree.BinaryFunction.{BinaryFunction}
use Rattle.odata_parse.specs.declared.tree.BinaryFunction.TheVariants.{Contains, StartsWith, EndsWith, IndexOf, Concat}
use Rattle.odata_parse.specs.Tree as tree
use Rattle.odata_parse.specs.Tree.{LiteralOf, ExprOf}
use Rattle.typed_trees.specs.declared.tree.TheConstants.{MILLIONTHS}
use Rattle.odata_types.specs.declared.types.TheConstants.{MOST_SIZE, FUNCTION_SIZE}
use Rattle.odata_types.specs.declared.types.ColumnType.{ColumnType}
use Rattle.odata_types.specs.declared.types.ExprType.{ExprType}
use Rattle.odata_types.specs.declared.types.ExprType.TheVariants as kind
use Rattle.odata_types.specs.declared.fault.TypeFault.{TypeFault}
use Rattle.odata_types.specs.declared.fault.TypeFault.TheVariants.{UnknownName, Mismatch, TooLarge}
use Rattle.typed_trees.specs.declared.tree.DatePart.{DatePart}
use Rattle.typed_trees.specs.declared.tree.DatePart.TheVariants as part
use Rattle.typed_trees.specs.declared.tree.TextTest.TheVariants as test
use Rattle.odata_types.specs.Columns.{InputOf}
use Rattle.odata_types.specs.Result.{◌>>=◌}
use Rattle.cell_types.specs.declared.kind.ColumnKind.TheVariants.{Text}
use Rattle.cell_types.specs.declared.kind.NumberKind.TheVariants as numbers
use Rattle.typed_trees.specs.Plain.{kind_expr}
use Rattle.typed_trees.specs.TypedTree.{DateExprOf, TextExprOf, NumberExprOf, TruthExprOf, TypedExprOf, null_date, date_literal, null_text, text_literal, concat, null_number, number_literal, number_of_date, negated, arithmetic, length_of, index_of, part_of, scaled, null_truth, truth_literal, negation, conjunction, disjunction, compare_numbers, compare_texts, compare_truths, number_in, text_in, truth_in, test_text, nothing, integer, text, truth, date, decimal, number_of_day}

-- a typed expression, or the cause
abbrev pub Typing : Type 0
Typing = Result TypedExprOf TypeFault

-- what a number of this size may be: too large over 2 to the 126
abbrev pub within : {X : Type 0} → ℕ → X → Result X TypeFault
within size x = if nat_le size MOST_SIZE then Ok x else Err TooLarge

-- ---- values and columns

abbrev pub literal_typing : LiteralOf → Typing
literal_typing tree.null = Ok nothing
literal_typing (tree.boolean b) = Ok (truth (truth_literal b))
literal_typing (tree.number n) = within (unsigned_abs n) (integer (number_literal n) (unsigned_abs n))
literal_typing (tree.text t) = Ok (text (text_literal t))
literal_typing (tree.decimal n) = within (unsigned_abs n) (decimal (number_literal n) (unsigned_abs n))
literal_typing (tree.date y m d) = Ok (date (date_literal (record { year = y; month = m; day = d })))

abbrev pub column_expr : ℕ → ColumnType → TypedExprOf
column_expr place type = kind_expr place type.kind type.size

-- the number of the first column with the name
abbrev pub place_of : List InputOf → List ℕ → ℕ
place_of inputs name = position_or_len (bytes_eq name) (map (λ c. c.name) inputs)

abbrev pub column_at : ℕ → Option InputOf → Typing
column_at place None = Err UnknownName
column_at place (Some c) = Ok (column_expr place c.column_type)

abbrev pub name_typing : List InputOf → List ℕ → Typing
name_typing inputs name = column_at (place_of inputs name) (slice_get inputs (place_of inputs name))

-- ---- an operand where a type is asked for: null fits each, an integer stands for a decimal too

abbrev pub as_integer : TypedExprOf → Result (NumberExprOf × ℕ) TypeFault
as_integer nothing = Ok (null_number, 0)
as_integer (integer e bound) = Ok (e, bound)
as_integer _ = Err Mismatch

-- an integer counts as its value times 1,000,000
abbrev pub as_decimal : TypedExprOf → Result (NumberExprOf × ℕ) TypeFault
as_decimal nothing = Ok (null_number, 0)
as_decimal (integer e bound) = within (bound * MILLIONTHS) (scaled e, bound * MILLIONTHS)
as_decimal (decimal e bound) = Ok (e, bound)
as_decimal _ = Err Mismatch

abbrev pub as_text : TypedExprOf → Result TextExprOf TypeFault
as_text nothing = Ok null_text
as_text (text e) = Ok e
as_text _ = Err Mismatch

abbrev pub as_date : TypedExprOf → Result DateExprOf TypeFault
as_date nothing = Ok null_date
as_date (date e) = Ok e
as_date _ = Err Mismatch

abbrev pub as_truth : TypedExprOf → Result TruthExprOf TypeFault
as_truth nothing = Ok null_truth
as_truth (truth e) = Ok e
as_truth _ = Err Mismatch

-- numbers of a type beside each other: of two days the later has the greater number
abbrev pub as_number : ExprType → TypedExprOf → Result NumberExprOf TypeFault
as_number kind.Decimal a = as_decimal a >>= λ x. Ok x.0
as_number kind.Date a = as_date a >>= λ x. Ok (number_of_date x)
as_number type a = as_integer a >>= λ x. Ok x.0

-- ---- operators

abbrev pub unary_typing : UnaryOperator → TypedExprOf → Typing
unary_typing Negate (decimal e bound) = Ok (decimal (negated e) bound)
unary_typing Negate a = as_integer a >>= λ n. Ok (integer (negated n.0) n.1)
unary_typing Not a = as_truth a >>= λ e. Ok (truth (negation e))

abbrev pub logic_expr : LogicOperator → TruthExprOf → TruthExprOf → TruthExprOf
logic_expr And a b = conjunction a b
logic_expr Or a b = disjunction a b

abbrev pub logic_typing : LogicOperator → TypedExprOf → TypedExprOf → Typing
logic_typing o a b = as_truth a >>= λ x. as_truth b >>= λ y. Ok (truth (logic_expr o x y))

-- the bound of a computed number
abbrev pub computed_size : ArithmeticOperator → ℕ → ℕ → ℕ
computed_size Add a b = a + b
computed_size Sub a b = a + b
computed_size Mul a b = a * b
computed_size Div a b = a
computed_size Mod a b = a

abbrev pub integers_typing : ArithmeticOperator → TypedExprOf → TypedExprOf → Typing
integers_typing o a b = as_integer a >>= λ x. as_integer b >>= λ y. within (computed_size o x.1 y.1) (integer (arithmetic o x.0 y.0) (computed_size o x.1 y.1))

abbrev pub decimals_typing : ArithmeticOperator → TypedExprOf → TypedExprOf → Typing
decimals_typing o a b = as_decimal a >>= λ x. as_decimal b >>= λ y. within (computed_size o x.1 y.1) (decimal (arithmetic o x.0 y.0) (computed_size o x.1 y.1))

-- the type of an expression
abbrev pub type_of : TypedExprOf → ExprType
type_of nothing = kind.Null
type_of (integer e bound) = kind.Integer
type_of (text e) = kind.Text
type_of (truth e) = kind.Boolean
type_of (date e) = kind.Date
type_of (decimal e bound) = kind.Decimal

-- the type of two operands together: an integer beside a decimal is one, null takes the other's
abbrev pub common_type : ExprType → ExprType → ExprType
common_type kind.Null b = b
common_type kind.Integer kind.Decimal = kind.Decimal
common_type a b = a

abbrev pub arithmetic_as : ExprType → ArithmeticOperator → TypedExprOf → TypedExprOf → Typing
arithmetic_as kind.Decimal Add a b = decimals_typing Add a b
arithmetic_as kind.Decimal Sub a b = decimals_typing Sub a b
arithmetic_as _ o a b = integers_typing o a b

abbrev pub arithmetic_typing : ArithmeticOperator → TypedExprOf → TypedExprOf → Typing
arithmetic_typing o a b = arithmetic_as (common_type (type_of a) (type_of b)) o a b

-- null beside null is compared as truths are
abbrev pub comparison_as : ExprType → ComparisonOperator → TypedExprOf → TypedExprOf → Result TruthExprOf TypeFault
comparison_as kind.Text o a b = as_text a >>= λ x. as_text b >>= λ y. Ok (compare_texts o x y)
comparison_as kind.Boolean o a b = as_truth a >>= λ x. as_truth b >>= λ y. Ok (compare_truths o x y)
comparison_as kind.Null o a b = as_truth a >>= λ x. as_truth b >>= λ y. Ok (compare_truths o x y)
comparison_as type o a b = as_number type a >>= λ x. as_number type b >>= λ y. Ok (compare_numbers o x y)

abbrev pub comparison_typing : ComparisonOperator → TypedExprOf → TypedExprOf → Typing
comparison_typing o a b = comparison_as (common_type (type_of a) (type_of b)) o a b >>= λ e. Ok (truth e)

abbrev pub binary_typing : BinaryOperator → TypedExprOf → TypedExprOf → Typing
binary_typing (operator.Logic o) a b = logic_typing o a b
binary_typing (operator.Comparison o) a b = comparison_typing o a b
binary_typing (operator.Arithmetic o) a b = arithmetic_typing o a b

-- ---- lists

abbrev pub literal_type : LiteralOf → ExprType
literal_type tree.null = kind.Null
literal_type (tree.boolean b) = kind.Boolean
literal_type (tree.number n) = kind.Integer
literal_type (tree.text t) = kind.Text
literal_type (tree.date y m d) = kind.Date
literal_type (tree.decimal n) = kind.Decimal

-- a literal alone is not too large
abbrev pub is_small : LiteralOf → Bool
is_small (tree.number n) = nat_le (unsigned_abs n) MOST_SIZE
is_small (tree.decimal n) = nat_le (unsigned_abs n) MOST_SIZE
is_small _ = true

-- the type of an operand and a list together
abbrev pub list_type : ExprType → List LiteralOf → ExprType
list_type type [] = type
list_type type (v ∷ vs) = list_type (common_type type (literal_type v)) vs

-- a type fits where another is asked for
abbrev pub type_fits : ExprType → ExprType → Bool
type_fits wanted kind.Null = true
type_fits kind.Decimal kind.Integer = true
type_fits kind.Decimal kind.Decimal = true
type_fits kind.Integer kind.Integer = true
type_fits kind.Text kind.Text = true
type_fits kind.Boolean kind.Boolean = true
type_fits kind.Date kind.Date = true
type_fits wanted type = false

-- a value as a number of a type: an integer among decimals is scaled
abbrev pub number_item : ExprType → LiteralOf → Result (Option ℤ) TypeFault
number_item kind.Integer (tree.number n) = Ok (Some n)
number_item kind.Decimal (tree.number n) = within (unsigned_abs n * MILLIONTHS) (Some (n *ℤ pos MILLIONTHS))
number_item kind.Decimal (tree.decimal n) = Ok (Some n)
number_item kind.Date (tree.date y m d) = Ok (Some (number_of_day (record { year = y; month = m; day = d })))
number_item _ _ = Ok None

abbrev pub number_items : ExprType → List LiteralOf → Result (List (Option ℤ)) TypeFault
number_items type [] = Ok []
number_items type (v ∷ vs) = number_item type v >>= λ x. number_items type vs >>= λ xs. Ok (x ∷ xs)

abbrev pub text_item : LiteralOf → Option (List ℕ)
text_item (tree.text t) = Some t
text_item _ = None

abbrev pub truth_item : LiteralOf → Option Bool
truth_item (tree.boolean b) = Some b
truth_item _ = None

abbrev pub list_as : ExprType → TypedExprOf → List LiteralOf → Result TruthExprOf TypeFault
list_as kind.Text a vs = as_text a >>= λ x. Ok (text_in x (map text_item vs))
list_as kind.Boolean a vs = as_truth a >>= λ x. Ok (truth_in x (map truth_item vs))
list_as kind.Null a vs = as_truth a >>= λ x. Ok (truth_in x (map truth_item vs))
list_as type a vs = as_number type a >>= λ x. number_items type vs >>= λ items. Ok (number_in x items)

-- the operand and all items are of one type or null; each integer among decimals is scaled
abbrev pub list_in_type : ExprType → TypedExprOf → List LiteralOf → Typing
list_in_type type a vs = if list_all (λ v. type_fits type (literal_type v)) vs then (list_as type a vs >>= λ e. Ok (truth e)) else Err Mismatch

abbrev pub in_typing : TypedExprOf → List LiteralOf → Typing
in_typing a vs = if list_all is_small vs then list_in_type (list_type (type_of a) vs) a vs else Err TooLarge

-- ---- functions

abbrev pub part_typing : DatePart → TypedExprOf → Typing
part_typing p a = as_date a >>= λ d. Ok (integer (part_of p d) FUNCTION_SIZE)

abbrev pub unary_call_typing : UnaryFunction → TypedExprOf → Typing
unary_call_typing Length a = as_text a >>= λ t. Ok (integer (length_of t) FUNCTION_SIZE)
unary_call_typing Year a = part_typing part.Year a
unary_call_typing Month a = part_typing part.Month a
unary_call_typing Day a = part_typing part.Day a

abbrev pub text_call : BinaryFunction → TextExprOf → TextExprOf → TypedExprOf
text_call Contains x y = truth (test_text test.Contains x y)
text_call StartsWith x y = truth (test_text test.StartsWith x y)
text_call EndsWith x y = truth (test_text test.EndsWith x y)
text_call IndexOf x y = integer (index_of x y) FUNCTION_SIZE
text_call Concat x y = text (concat x y)

abbrev pub binary_call_typing : BinaryFunction → TypedExprOf → TypedExprOf → Typing
binary_call_typing f a b = as_text a >>= λ x. as_text b >>= λ y. Ok (text_call f x y)

-- ---- expressions

abbrev pub typing : List InputOf → ExprOf → Typing
typing inputs (tree.literal v) = literal_typing v
typing inputs (tree.name n) = name_typing inputs n
typing inputs (tree.unary o a) = typing inputs a >>= unary_typing o
typing inputs (tree.binary o a b) = typing inputs a >>= λ x. typing inputs b >>= λ y. binary_typing o x y
typing inputs (tree.in_list a vs) = typing inputs a >>= λ x. in_typing x vs
typing inputs (tree.unary_call f a) = typing inputs a >>= unary_call_typing f
typing inputs (tree.binary_call f a b) = typing inputs a >>= λ x. typing inputs b >>= λ y. binary_call_typing f x y

-- a filter is a truth or null
abbrev pub filter_typing : List InputOf → ExprOf → Result TruthExprOf TypeFault
filter_typing inputs e = typing inputs e >>= as_truth
