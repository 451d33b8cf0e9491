-- Operators, lists and functions of sound expressions are sound.
use Rattle.std.proofs.Common.{ℕ, ◌+◌, ◌≤◌, Bool, true, false, List, arith, if◌then◌else◌}
use Rattle.std.specs.Prelude.{IfOk, Ok, Err}
use Rattle.std.specs.List.{list_all}
use Rattle.cell_types.specs.Value.{CellValue}
use Rattle.odata_parse.specs.declared.tree.UnaryOperator.{UnaryOperator}
use Rattle.odata_parse.specs.declared.tree.UnaryOperator.TheVariants.{Negate, Not}
use Rattle.odata_parse.specs.declared.tree.LogicOperator.{LogicOperator}
use Rattle.odata_parse.specs.declared.tree.LogicOperator.TheVariants.{And, Or}
use Rattle.cell_types.specs.declared.comparison.ComparisonOperator.{ComparisonOperator}
use Rattle.typed_trees.specs.declared.operator.ArithmeticOperator.{ArithmeticOperator}
use Rattle.typed_trees.specs.declared.operator.ArithmeticOperator.TheVariants.{Add, Sub, Mul, Div, Mod}
use Rattle.odata_parse.specs.declared.tree.BinaryOperator.{BinaryOperator}
use Rattle.odata_parse.specs.declared.tree.BinaryOperator.TheVariants as operator
use Rattle.odata_parse.specs.declared.tree.UnaryFunction.{UnaryFunction}
use Rattle.odata_parse.specs.declared.tree.UnaryFunction.TheVariants.{Length, Year, Month, Day}
use Rattle.odata_parse.specs.declared.tree.BinaryFunction.{BinaryFunction}
use Rattle.odata_parse.specs.declared.tree.BinaryFunction.TheVariants.{Contains, StartsWith, EndsWith, IndexOf, Concat}
use Rattle.odata_parse.specs.Tree.{LiteralOf}
use Rattle.odata_types.specs.declared.types.ExprType.{ExprType}
use Rattle.odata_types.specs.declared.types.ExprType.TheVariants as kind
use Rattle.odata_types.specs.declared.fault.TypeFault.TheVariants.{Mismatch, TooLarge}
use Rattle.typed_trees.specs.declared.tree.DatePart.{DatePart}
use Rattle.typed_trees.specs.declared.tree.DatePart.TheVariants as part
use Rattle.odata_types.specs.Result.{◌>>=◌}
use Rattle.typed_trees.specs.TypedTree as typed
use Rattle.typed_trees.specs.TypedTree.{NumberExprOf, TextExprOf, TruthExprOf, TypedExprOf}
use Rattle.odata_types.specs.Typing.{arithmetic_as, as_date, as_decimal, as_integer, as_number, as_text, as_truth, binary_call_typing, binary_typing, common_type, comparison_as, computed_size, decimals_typing, type_fits, in_typing, integers_typing, is_small, list_as, list_in_type, list_type, literal_type, logic_expr, number_items, part_typing, text_call, type_of, unary_call_typing, unary_typing}
use Rattle.row_eval.specs.Bounds.{NumberFits, TruthFits}
use Rattle.row_eval.specs.Outcome.{date_outcome, number_outcome, text_outcome}
use Rattle.query_meaning.proofs.SizeLemmas.{fits_of, negated_sized, arithmetic_sized, length_sized, index_sized, concat_sized, part_sized}
use Rattle.query_meaning.proofs.SoundLemmas.{NumberSound, TextSound, DateSound, Sound, bind, if_within, always, as_integer_sound, as_decimal_sound, as_number_sound, as_text_sound, as_date_sound, as_truth_sound}

-- ---- operators

negated_sound : (row : List CellValue) (e : NumberExprOf) (b : ℕ) → NumberSound row (e, b) → NumberSound row (typed.negated e, b)
negated_sound row e b h = let s = negated_sized (number_outcome e row) b h.2 in (h.0, (h.1, fits_of (number_outcome (typed.negated e) row) b h.0 s), s)

pub unary_sound : (row : List CellValue) (k : ℕ) (o : UnaryOperator) (t : TypedExprOf) → Sound row k t → IfOk (unary_typing o t) (Sound row (k + 1))
unary_sound row k Negate typed.nothing h = negated_sound row typed.null_number 0 (omega arith, tt, tt)
unary_sound row k Negate (typed.integer e b) h = negated_sound row e b h
unary_sound row k Negate (typed.text e) h = tt
unary_sound row k Negate (typed.truth e) h = tt
unary_sound row k Negate (typed.date e) h = tt
unary_sound row k Negate (typed.decimal e b) h = negated_sound row e b h
unary_sound row k Not t h = bind (as_truth t) _ (λ e. TruthFits e row) (Sound row (k + 1)) (as_truth_sound row k t h) (λ e f. f)

logic_sound : (row : List CellValue) (o : LogicOperator) (x y : TruthExprOf) → TruthFits x row → TruthFits y row → TruthFits (logic_expr o x y) row
logic_sound row And x y p q = (p, q)
logic_sound row Or x y p q = (p, q)

integers_sound : (row : List CellValue) (j k n : ℕ) (o : ArithmeticOperator) (a b : TypedExprOf) → Sound row j a → Sound row k b → IfOk (integers_typing o a b) (Sound row n)
integers_sound row j k n o a b p q = bind (as_integer a) _ (NumberSound row) (Sound row n) (as_integer_sound row j a p) (λ x px.
    bind (as_integer b) _ (NumberSound row) (Sound row n) (as_integer_sound row k b q) (λ y py.
    let size = computed_size o x.1 y.1 in
    if_within size (typed.integer (typed.arithmetic o x.0 y.0) size) (Sound row n) (λ limit.
    let s = arithmetic_sized o (number_outcome x.0 row) (number_outcome y.0 row) x.1 y.1 px.2 py.2 in
    (limit, (px.1, py.1, fits_of (number_outcome (typed.arithmetic o x.0 y.0) row) size limit s), s))))

decimals_sound : (row : List CellValue) (j k n : ℕ) (o : ArithmeticOperator) (a b : TypedExprOf) → Sound row j a → Sound row k b → IfOk (decimals_typing o a b) (Sound row n)
decimals_sound row j k n o a b p q = bind (as_decimal a) _ (NumberSound row) (Sound row n) (as_decimal_sound row j a p) (λ x px.
    bind (as_decimal b) _ (NumberSound row) (Sound row n) (as_decimal_sound row k b q) (λ y py.
    let size = computed_size o x.1 y.1 in
    if_within size (typed.decimal (typed.arithmetic o x.0 y.0) size) (Sound row n) (λ limit.
    let s = arithmetic_sized o (number_outcome x.0 row) (number_outcome y.0 row) x.1 y.1 px.2 py.2 in
    (limit, (px.1, py.1, fits_of (number_outcome (typed.arithmetic o x.0 y.0) row) size limit s), s))))

arithmetic_sound : (row : List CellValue) (j k n : ℕ) (type : ExprType) (o : ArithmeticOperator) (a b : TypedExprOf) → Sound row j a → Sound row k b → IfOk (arithmetic_as type o a b) (Sound row n)
arithmetic_sound row j k n kind.Decimal Add a b p q = decimals_sound row j k n Add a b p q
arithmetic_sound row j k n kind.Decimal Sub a b p q = decimals_sound row j k n Sub a b p q
arithmetic_sound row j k n kind.Decimal Mul a b p q = integers_sound row j k n Mul a b p q
arithmetic_sound row j k n kind.Decimal Div a b p q = integers_sound row j k n Div a b p q
arithmetic_sound row j k n kind.Decimal Mod a b p q = integers_sound row j k n Mod a b p q
arithmetic_sound row j k n kind.Null o a b p q = integers_sound row j k n o a b p q
arithmetic_sound row j k n kind.Integer o a b p q = integers_sound row j k n o a b p q
arithmetic_sound row j k n kind.Text o a b p q = integers_sound row j k n o a b p q
arithmetic_sound row j k n kind.Boolean o a b p q = integers_sound row j k n o a b p q
arithmetic_sound row j k n kind.Date o a b p q = integers_sound row j k n o a b p q

truths_sound : (row : List CellValue) (j k : ℕ) (o : ComparisonOperator) (a b : TypedExprOf) → Sound row j a → Sound row k b → IfOk (as_truth a >>= λ x. as_truth b >>= λ y. Ok (typed.compare_truths o x y)) (λ e. TruthFits e row)
truths_sound row j k o a b p q = bind (as_truth a) _ (λ e. TruthFits e row) (λ e. TruthFits e row) (as_truth_sound row j a p) (λ x px.
    bind (as_truth b) _ (λ e. TruthFits e row) (λ e. TruthFits e row) (as_truth_sound row k b q) (λ y py. (px, py)))

numbers_sound : (row : List CellValue) (j k : ℕ) (type : ExprType) (o : ComparisonOperator) (a b : TypedExprOf) → Sound row j a → Sound row k b
    → IfOk (as_number type a >>= λ x. as_number type b >>= λ y. Ok (typed.compare_numbers o x y)) (λ e. TruthFits e row)
numbers_sound row j k type o a b p q = bind (as_number type a) _ (λ e. NumberFits e row) (λ e. TruthFits e row) (as_number_sound row j type a p) (λ x px.
    bind (as_number type b) _ (λ e. NumberFits e row) (λ e. TruthFits e row) (as_number_sound row k type b q) (λ y py. (px, py)))

comparison_sound : (row : List CellValue) (j k : ℕ) (type : ExprType) (o : ComparisonOperator) (a b : TypedExprOf) → Sound row j a → Sound row k b → IfOk (comparison_as type o a b) (λ e. TruthFits e row)
comparison_sound row j k kind.Integer o a b p q = numbers_sound row j k kind.Integer o a b p q
comparison_sound row j k kind.Decimal o a b p q = numbers_sound row j k kind.Decimal o a b p q
comparison_sound row j k kind.Text o a b p q = bind (as_text a) _ (λ _. Unit {0}) (λ e. TruthFits e row) (always (as_text a)) (λ x px.
    bind (as_text b) _ (λ _. Unit {0}) (λ e. TruthFits e row) (always (as_text b)) (λ y py. tt))
comparison_sound row j k kind.Date o a b p q = numbers_sound row j k kind.Date o a b p q
comparison_sound row j k kind.Boolean o a b p q = truths_sound row j k o a b p q
comparison_sound row j k kind.Null o a b p q = truths_sound row j k o a b p q

pub binary_sound : (row : List CellValue) (j k n : ℕ) (o : BinaryOperator) (a b : TypedExprOf) → Sound row j a → Sound row k b → IfOk (binary_typing o a b) (Sound row n)
binary_sound row j k n (operator.Logic o) a b p q = bind (as_truth a) _ (λ e. TruthFits e row) (Sound row n) (as_truth_sound row j a p) (λ x px.
    bind (as_truth b) _ (λ e. TruthFits e row) (Sound row n) (as_truth_sound row k b q) (λ y py. logic_sound row o x y px py))
binary_sound row j k n (operator.Comparison o) a b p q =
    bind (comparison_as (common_type (type_of a) (type_of b)) o a b) _ (λ e. TruthFits e row) (Sound row n) (comparison_sound row j k (common_type (type_of a) (type_of b)) o a b p q) (λ e f. f)
binary_sound row j k n (operator.Arithmetic o) a b p q = arithmetic_sound row j k n (common_type (type_of a) (type_of b)) o a b p q

-- ---- lists and functions

numbers_in_sound : (row : List CellValue) (k : ℕ) (type : ExprType) (a : TypedExprOf) (vs : List LiteralOf) → Sound row k a
    → IfOk (as_number type a >>= λ x. number_items type vs >>= λ items. Ok (typed.number_in x items)) (λ e. TruthFits e row)
numbers_in_sound row k type a vs p = bind (as_number type a) _ (λ e. NumberFits e row) (λ e. TruthFits e row) (as_number_sound row k type a p) (λ x px.
    bind (number_items type vs) _ (λ _. Unit {0}) (λ e. TruthFits e row) (always (number_items type vs)) (λ items _. px))

list_sound : (row : List CellValue) (k : ℕ) (type : ExprType) (a : TypedExprOf) (vs : List LiteralOf) → Sound row k a → IfOk (list_as type a vs) (λ e. TruthFits e row)
list_sound row k kind.Integer a vs p = numbers_in_sound row k kind.Integer a vs p
list_sound row k kind.Decimal a vs p = numbers_in_sound row k kind.Decimal a vs p
list_sound row k kind.Text a vs p = bind (as_text a) _ (λ _. Unit {0}) (λ e. TruthFits e row) (always (as_text a)) (λ x px. tt)
list_sound row k kind.Date a vs p = numbers_in_sound row k kind.Date a vs p
list_sound row k kind.Boolean a vs p = bind (as_truth a) _ (λ e. TruthFits e row) (λ e. TruthFits e row) (as_truth_sound row k a p) (λ x px. px)
list_sound row k kind.Null a vs p = bind (as_truth a) _ (λ e. TruthFits e row) (λ e. TruthFits e row) (as_truth_sound row k a p) (λ x px. px)

list_in_type_sound : (row : List CellValue) (k n : ℕ) (type : ExprType) (a : TypedExprOf) (vs : List LiteralOf) → Sound row k a → IfOk (list_in_type type a vs) (Sound row n)
list_in_type_sound row k n type a vs p = by (list_all (λ v. type_fits type (literal_type v)) vs)
  where
    by : (c : Bool) → IfOk (if c then (list_as type a vs >>= λ e. Ok (typed.truth e)) else Err Mismatch) (Sound row n)
    by true = bind (list_as type a vs) _ (λ e. TruthFits e row) (Sound row n) (list_sound row k type a vs p) (λ e f. f)
    by false = tt

pub in_sound : (row : List CellValue) (k n : ℕ) (a : TypedExprOf) (vs : List LiteralOf) → Sound row k a → IfOk (in_typing a vs) (Sound row n)
in_sound row k n a vs p = by (list_all is_small vs)
  where
    by : (c : Bool) → IfOk (if c then list_in_type (list_type (type_of a) vs) a vs else Err TooLarge) (Sound row n)
    by true = list_in_type_sound row k n (list_type (type_of a) vs) a vs p
    by false = tt

part_sound : (row : List CellValue) (k n : ℕ) (p : DatePart) (a : TypedExprOf) → Sound row k a → IfOk (part_typing p a) (Sound row n)
part_sound row k n p a h = bind (as_date a) _ (DateSound row) (Sound row n) (as_date_sound row k a h) (λ d f. (omega arith, tt, part_sized p (date_outcome d row) f))

pub unary_call_sound : (row : List CellValue) (k n : ℕ) (f : UnaryFunction) (a : TypedExprOf) → k ≤ 1_024 → Sound row k a → IfOk (unary_call_typing f a) (Sound row n)
unary_call_sound row k n Length a few h = bind (as_text a) _ (TextSound row k) (Sound row n) (as_text_sound row k a h) (λ t s. (omega arith, tt, length_sized (text_outcome t row) k few s))
unary_call_sound row k n Year a few h = part_sound row k n part.Year a h
unary_call_sound row k n Month a few h = part_sound row k n part.Month a h
unary_call_sound row k n Day a few h = part_sound row k n part.Day a h

text_call_sound : (row : List CellValue) (j k : ℕ) (f : BinaryFunction) (x y : TextExprOf) → j ≤ 1_024 → TextSound row j x → TextSound row k y → Sound row (j + k + 1) (text_call f x y)
text_call_sound row j k Contains x y few p q = tt
text_call_sound row j k StartsWith x y few p q = tt
text_call_sound row j k EndsWith x y few p q = tt
text_call_sound row j k IndexOf x y few p q = (omega arith, tt, index_sized (text_outcome x row) (text_outcome y row) j few p)
text_call_sound row j k Concat x y few p q = concat_sized (text_outcome x row) (text_outcome y row) j k p q

pub binary_call_sound : (row : List CellValue) (j k : ℕ) (f : BinaryFunction) (a b : TypedExprOf) → j ≤ 1_024 → Sound row j a → Sound row k b → IfOk (binary_call_typing f a b) (Sound row (j + k + 1))
binary_call_sound row j k f a b few p q = bind (as_text a) _ (TextSound row j) (Sound row (j + k + 1)) (as_text_sound row j a p) (λ x px.
    bind (as_text b) _ (TextSound row k) (Sound row (j + k + 1)) (as_text_sound row k b q) (λ y py. text_call_sound row j k f x y few px py))
