-- Conditions that test a column.
use Rattle.std.proofs.Common.{◌≡◌, inl, inr, ℕ, ℤ, Bool, true, false, not, cond, Some, None, Option, List, [], ◌∷◌, get_or, length, ltb, map, refl, sym, ap, ◌∙◌, subst, arith}
use Rattle.std.specs.Prelude.{Err, IfOk, IfSome, Ok, Result, option_and_then, option_map, slice_get}
use Rattle.std.specs.declared.alloc.AllocError.{AllocError}
use Rattle.std.specs.Cmp.{IsTotalOrder}
use Rattle.std.specs.Cmp.Lexicographic.{slice_cmp}
use Rattle.std.specs.Ordering.{int_cmp, nat_cmp, is_lt, ordering_reverse}
use Rattle.std.specs.declared.cmp.Ordering.{Ordering}
use Rattle.std.specs.declared.cmp.Ordering.TheVariants.{Less, Equal, Greater}
use Rattle.std.proofs.lemmas.Bool.{cases_Bool, false≢true, ltb-false}
use Rattle.block_summary.specs.Ranges.{is_null}
use Rattle.cell_types.specs.declared.kind.ColumnKind.{ColumnKind}
use Rattle.cell_types.specs.declared.kind.ColumnKind.TheVariants.{Text, Number}
use Rattle.cell_types.specs.Value.{CellValue, boolean, decimal, integer, null, text, value_cmp}
use Rattle.cell_types.specs.Kind.{number_of_truth, of_kind}
use Rattle.cell_types.specs.declared.comparison.ComparisonOperator.{ComparisonOperator}
use Rattle.cell_types.specs.declared.comparison.ComparisonOperator.TheVariants.{GreaterOrEqual, GreaterThan, NotEqual}
use Rattle.cell_types.specs.declared.kind.NumberKind.TheVariants as numbers
use Rattle.typed_trees.specs.TypedTree.{DateExprOf, DayOf, NumberExprOf, TextExprOf, TruthExprOf, compare_numbers, compare_texts, date_column, negation, number_column, number_of_date, text_column, truth_view, typed_view}
use Rattle.typed_trees.specs.declared.tree.TruthExpr.{TruthExpr}
use Rattle.odata_query.specs.Query.{order_view}
use Rattle.odata_query.specs.declared.query.OrderBy.{OrderBy}
use Rattle.row_eval.specs.Bounds.{NumberFits, TruthFits}
use Rattle.row_eval.specs.Comparison.{compared, day_cmp, holds}
use Rattle.row_eval.specs.Laws.{DatesAreCompared, IsCalendarDay}
use Rattle.row_eval.specs.Logic.{opposite, truth_of}
use Rattle.row_eval.specs.Outcome.{both, date_outcome, day_value, number_outcome, or_null, text_outcome, truth_outcome}
use Rattle.row_eval.specs.Row.{boolean_in, cell, day_in, decimal_in, integer_in, number_in, text_in}
use Rattle.query_meaning.specs.Order.{Item, item_value}
use Rattle.typed_trees.specs.Plain.{plain_at}
use Rattle.sort_rows.specs.Cutoffs.{first_value, is_before, is_near, may_precede, moved_to, order_between, IsComparison, IsTest, IsTestOfColumn}
use Rattle.order_columns.specs.Plain.{column_value, IsPlainColumn}
use Rattle.typed_trees.specs.declared.plain.PlainColumn.{PlainColumn}
use Rattle.order_columns.proofs.PlainLemmas.{day_there, decimal_there, integer_there, read_there, text_there, then_in_turn, truth_there, value_is}

-- ---- a column, compared with a value

order_null : (b : CellValue) → is_null b ≡ false → order_between null b ≡ None
order_null b some = ap (λ c. cond c (Some Equal) None) some

order_some : (v b : CellValue) → is_null v ≡ false → is_null b ≡ false → order_between v b ≡ Some (value_cmp v b)
order_some v b n some =
    ap (λ c. cond c (cond (is_null b) (Some Equal) None) (cond (is_null b) None (Some (value_cmp v b)))) n
    ∙ ap (λ c. cond c None (Some (value_cmp v b))) some

order_of_null : (v : CellValue) → is_null v ≡ false → order_between v null ≡ None
order_of_null v n = ap (λ c. cond c (Some Equal) None) n

module _ {X : Type 0} (make : X → CellValue) (cmp : X → X → Ordering) (some : (x : X) → is_null (make x) ≡ false) (same : (x y : X) → value_cmp (make x) (make y) ≡ cmp x y) where
  between : (x y : Option X) → compared cmp x y ≡ order_between (or_null make x) (or_null make y)
  between None None = refl
  between None (Some y) = sym (order_null (make y) (some y))
  between (Some x) None = sym (order_of_null (make x) (some x))
  between (Some x) (Some y) = ap (λ o. Some o) (sym (same x y)) ∙ sym (order_some (make x) (make y) (some x) (some y))

  -- what a reader finds in a column is compared as the cell there
  there_compared : (kind : ColumnKind) (read : CellValue → Option X) → ((v : CellValue) → or_null make (read v) ≡ of_kind kind v) → read null ≡ None → (o : ComparisonOperator)
      (row : List CellValue) (col : ℕ) (x : Option X) → truth_of (holds o (compared cmp (cell read row col) x)) ≡ truth_of (holds o (order_between (of_kind kind (get_or row col null)) (or_null make x)))
  there_compared kind read there none o row col x =
      ap (λ y. truth_of (holds o (compared cmp y x))) (read_there read none row col) ∙ ap (λ order. truth_of (holds o order)) (between (read (get_or row col null)) x)
      ∙ ap (λ v. truth_of (holds o (order_between v (or_null make x)))) (there (get_or row col null))

pub integers_compared : (o : ComparisonOperator) (col : ℕ) (operand : NumberExprOf) (n : Option ℤ) → ((row : List CellValue) → number_outcome operand row ≡ Some n)
    → ((row : List CellValue) → NumberFits operand row) → IsComparison o (plain_at (Number numbers.Integer) col) (or_null integer n) (compare_numbers o (number_column numbers.Integer col) operand)
unfolding value_cmp
integers_compared o col operand n is fits = record {
  outcome = λ row days.
      ap (both (λ x y. truth_of (holds o (compared int_cmp x y))) (Some (cell integer_in row col))) (is row)
      ∙ ap (λ t. Some t) (there_compared integer int_cmp (λ z. refl) (λ x y. refl) (Number numbers.Integer) integer_in integer_there refl o row col n);
  fits = λ row. (tt, fits row);
}

pub decimals_compared : (o : ComparisonOperator) (col : ℕ) (operand : NumberExprOf) (n : Option ℤ) → ((row : List CellValue) → number_outcome operand row ≡ Some n)
    → ((row : List CellValue) → NumberFits operand row) → IsComparison o (plain_at (Number numbers.Decimal) col) (or_null decimal n) (compare_numbers o (number_column numbers.Decimal col) operand)
unfolding value_cmp
decimals_compared o col operand n is fits = record {
  outcome = λ row days.
      ap (both (λ x y. truth_of (holds o (compared int_cmp x y))) (Some (cell decimal_in row col))) (is row)
      ∙ ap (λ t. Some t) (there_compared decimal int_cmp (λ z. refl) (λ x y. refl) (Number numbers.Decimal) decimal_in decimal_there refl o row col n);
  fits = λ row. (tt, fits row);
}

-- days are compared as their numbers
days_in_turn : (a b : DayOf) → value_cmp (day_value a) (day_value b) ≡ day_cmp a b
unfolding value_cmp
days_in_turn a b = sym (then_in_turn (int_cmp a.year b.year) (nat_cmp a.month b.month) (nat_cmp a.day b.day))

pub dates_compared : DatesAreCompared → (o : ComparisonOperator) (col : ℕ) (operand : DateExprOf) (day : Option DayOf) → ((row : List CellValue) → date_outcome operand row ≡ day)
    → IfSome day IsCalendarDay → ((row : List CellValue) → NumberFits (number_of_date operand) row)
    → IsComparison o (plain_at (Number numbers.Date) col) (or_null day_value day) (compare_numbers o (number_column numbers.Date col) (number_of_date operand))
dates_compared law o col operand day is calendar fits = record {
  outcome = λ row days.
      law.comparisons o (date_column col) operand row (days col) (subst (λ d. IfSome d IsCalendarDay) (sym (is row)) calendar)
      ∙ ap (λ d. Some (truth_of (holds o (compared day_cmp (cell day_in row col) d)))) (is row)
      ∙ ap (λ t. Some t) (there_compared day_value day_cmp (λ d. refl) days_in_turn (Number numbers.Date) day_in day_there refl o row col day);
  fits = λ row. (tt, fits row);
}

pub texts_compared : (o : ComparisonOperator) (col : ℕ) (operand : TextExprOf) (t : Option (List ℕ)) → ((row : List CellValue) → text_outcome operand row ≡ t)
    → IsComparison o (plain_at Text col) (or_null text t) (compare_texts o (text_column col) operand)
unfolding value_cmp
texts_compared o col operand t is = record {
  outcome = λ row days.
      ap (λ y. Some (truth_of (holds o (compared (slice_cmp nat_cmp) (cell text_in row col) y)))) (is row)
      ∙ ap (λ t. Some t) (there_compared text (slice_cmp nat_cmp) (λ x. refl) (λ x y. refl) Text text_in text_there refl o row col t);
  fits = λ row. tt;
}

-- booleans are compared as their numbers
truths_in_turn : (a b : Bool) → value_cmp (boolean a) (boolean b) ≡ int_cmp (number_of_truth a) (number_of_truth b)
unfolding value_cmp
truths_in_turn true true = refl
truths_in_turn true false = refl
truths_in_turn false true = refl
truths_in_turn false false = refl

truths_as_numbers : (x y : Option Bool)
    → compared int_cmp (option_map number_of_truth x) (option_map number_of_truth y) ≡ compared (λ a b. int_cmp (number_of_truth a) (number_of_truth b)) x y
truths_as_numbers None None = refl
truths_as_numbers None (Some b) = refl
truths_as_numbers (Some a) None = refl
truths_as_numbers (Some a) (Some b) = refl

truth_cell : (v : Option CellValue) → option_and_then (number_in numbers.Boolean) v ≡ option_map number_of_truth (option_and_then boolean_in v)
truth_cell None = refl
truth_cell (Some v) = refl

pub truths_compared : (o : ComparisonOperator) (col : ℕ) (operand : NumberExprOf) (b : Option Bool) → ((row : List CellValue) → number_outcome operand row ≡ Some (option_map number_of_truth b))
    → ((row : List CellValue) → NumberFits operand row) → IsComparison o (plain_at (Number numbers.Boolean) col) (or_null boolean b) (compare_numbers o (number_column numbers.Boolean col) operand)
truths_compared o col operand b is fits = record {
  outcome = λ row days.
      let x = cell boolean_in row col in
      ap (both (λ x y. truth_of (holds o (compared int_cmp x y))) (Some (cell (number_in numbers.Boolean) row col))) (is row)
      ∙ ap (λ y. Some (truth_of (holds o (compared int_cmp y (option_map number_of_truth b))))) (truth_cell (slice_get row col))
      ∙ ap (λ order. Some (truth_of (holds o order))) (truths_as_numbers x b)
      ∙ ap (λ t. Some t) (there_compared boolean (λ a b. int_cmp (number_of_truth a) (number_of_truth b)) (λ x. refl) truths_in_turn (Number numbers.Boolean) boolean_in truth_there refl o row col b);
  fits = λ row. (tt, fits row);
}

-- ---- from a comparison to an order

opposite_truth : (b : Bool) → opposite (truth_of b) ≡ truth_of (not b)
opposite_truth true = refl
opposite_truth false = refl

pub test_turned : (column : PlainColumn) (test : CellValue → Bool) (e : TruthExprOf) → IsTestOfColumn column test e → IsTestOfColumn column (λ v. not (test v)) (negation e)
test_turned column test e is = record {
  outcome = λ row days. ap (option_map opposite) (is.outcome row days) ∙ ap (λ t. Some t) (opposite_truth (test (column_value column row)));
  fits = λ row. is.fits row;
}

pub test_as : (column : PlainColumn) (test other : CellValue → Bool) (e : TruthExprOf) → ((v : CellValue) → test v ≡ other v) → IsTestOfColumn column test e → IsTestOfColumn column other e
test_as column test other e same is = record {
  outcome = λ row days. is.outcome row days ∙ ap (λ b. Some (truth_of b)) (same (column_value column row));
  fits = is.fits;
}

-- null is before each other value
null_before : (v : CellValue) → is_null v ≡ false → value_cmp null v ≡ Less
unfolding value_cmp
null_before null e = absurd (cc)
null_before v e = refl

null_after : (v : CellValue) → is_lt (value_cmp v null) ≡ false
unfolding value_cmp
null_after null = refl
null_after v = refl

null_is : (v : CellValue) → is_null v ≡ true → v ≡ null
null_is null e = refl
null_is v e = absurd (cc)

pub none_before_null : (column : PlainColumn) (e : TruthExprOf) → ((row : List CellValue) → truth_outcome e row ≡ Some (truth_of false)) → ((row : List CellValue) → TruthFits e row)
    → IsTestOfColumn column (λ v. is_before false v null) e
none_before_null column e is fits = record {
  outcome = λ row days. is row ∙ ap (λ b. Some (truth_of b)) (sym (null_after (column_value column row)));
  fits = fits;
}

before_turned : (o : Ordering) → not (holds GreaterOrEqual (Some o)) ≡ is_lt o
before_turned Less = refl
before_turned Equal = refl
before_turned Greater = refl

after_turned : (o p : Ordering) → o ≡ ordering_reverse p → holds GreaterThan (Some o) ≡ is_lt p
after_turned o Less e = ap (λ o. holds GreaterThan (Some o)) e
after_turned o Equal e = ap (λ o. holds GreaterThan (Some o)) e
after_turned o Greater e = ap (λ o. holds GreaterThan (Some o)) e

-- what is not at least a value is before it
pub before_ascending : (b : CellValue) → is_null b ≡ false → (v : CellValue) → not (holds GreaterOrEqual (order_between v b)) ≡ is_before false v b
before_ascending b some v = elim (cases_Bool (is_null v)) [
  | inl n ↦
      subst (λ v. not (holds GreaterOrEqual (order_between v b)) ≡ is_before false v b) (sym (null_is v n))
      (ap (λ o. not (holds GreaterOrEqual o)) (order_null b some) ∙ sym (ap is_lt (null_before b some)))
  | inr n ↦ ap (λ o. not (holds GreaterOrEqual o)) (order_some v b n some) ∙ before_turned (value_cmp v b)
]

pub before_descending : IsTotalOrder value_cmp → (b : CellValue) → is_null b ≡ false → (v : CellValue) → holds GreaterThan (order_between v b) ≡ is_before true v b
before_descending values b some v = elim (cases_Bool (is_null v)) [
  | inl n ↦
      subst (λ v. holds GreaterThan (order_between v b) ≡ is_before true v b) (sym (null_is v n))
      (ap (λ o. holds GreaterThan o) (order_null b some) ∙ sym (null_after b))
  | inr n ↦ ap (λ o. holds GreaterThan o) (order_some v b n some) ∙ after_turned (value_cmp v b) (value_cmp b v) (values.antisymm v b)
]

pub before_null : (v : CellValue) → holds NotEqual (order_between v null) ≡ is_before true v null
before_null v = elim (cases_Bool (is_null v)) [
  | inl n ↦ subst (λ v. holds NotEqual (order_between v null) ≡ is_before true v null) (sym (null_is v n)) (sym (null_after null))
  | inr n ↦ ap (λ o. holds NotEqual o) (order_of_null v n) ∙ sym (ap is_lt (null_before v n))
]

-- the other direction
pub turned : (descending : Bool) (bound v : CellValue) → not (is_before (not descending) v bound) ≡ not (is_before descending bound v)
turned true bound v = refl
turned false bound v = refl

-- ---- an item that is a column

item_test : (item : Item) (others : List Item) (column : PlainColumn) (col : ℕ) (test : CellValue → Bool) (e : TruthExprOf) → IsPlainColumn item.0 column
    → IsTestOfColumn (moved_to col column) test e → IsTest (item ∷ others) col (λ row. test (item_value item row)) e
item_test item others column col test e is tests = record {
  outcome = λ place row picked at same days.
      let here : place ≡ column.place = (let both = sym at ∙ is.place in cc) in
      tests.outcome row days
      ∙ ap (λ v. Some (truth_of (test v))) (ap (of_kind column.kind) (same ∙ ap (λ p. get_or picked p null) here) ∙ sym (value_is item column is picked));
  fits = tests.fits;
}

module _ (o : OrderBy) (column : PlainColumn) (col : ℕ) (bound : CellValue) (e : TruthExprOf) (is : IsPlainColumn (typed_view o.expression) column) where
  pub nearness_tests : (os : List OrderBy) → slice_get os 0 ≡ Some o → IsTestOfColumn (moved_to col column) (λ v. not (is_before o.descending bound v)) e
      → IsTest (map order_view os) col (is_near (map order_view os) bound) e
  nearness_tests [] at tests = absurd (cc)
  nearness_tests (x ∷ os) at tests =
      let same : o ≡ x = cc in
      subst (λ y. IsTest (order_view y ∷ map order_view os) col (is_near (order_view y ∷ map order_view os) bound) e) same
      (item_test (order_view o) (map order_view os) column col (λ v. not (is_before o.descending bound v)) e is tests)

  module _ (last : List CellValue) (bound_is : bound ≡ column_value column last) where
    abbrev pub Cuts : List OrderBy → Type 0
    Cuts os = IsTest (map order_view os) col (may_precede (map order_view os) (first_value (map order_view os) last)) e

    last_is : bound ≡ item_value (order_view o) last
    last_is = bound_is ∙ sym (value_is (order_view o) column is last)

    pub cutoff_alone : (os : List OrderBy) → slice_get os 0 ≡ Some o → ltb 1 (length os) ≡ false → IsTestOfColumn (moved_to col column) (λ v. is_before o.descending v bound) e → Cuts os
    cutoff_alone [] at alone tests = absurd (cc)
    cutoff_alone (x ∷ []) at alone tests =
        let same : o ≡ x = cc in
        subst (λ y. Cuts (y ∷ [])) same
        (subst (λ b. IsTest (order_view o ∷ []) col (may_precede (order_view o ∷ []) b) e) last_is
        (item_test (order_view o) [] column col (λ v. is_before o.descending v bound) e is tests))
    cutoff_alone (x ∷ y ∷ os) at alone tests = let few = ltb-false 1 (length (x ∷ y ∷ os)) alone in absurd (omega (arith, few))

    pub cutoff_among : (os : List OrderBy) → slice_get os 0 ≡ Some o → ltb 1 (length os) ≡ true → IsTestOfColumn (moved_to col column) (λ v. not (is_before o.descending bound v)) e → Cuts os
    cutoff_among [] at many tests = absurd (cc)
    cutoff_among (x ∷ []) at many tests = absurd (false≢true many)
    cutoff_among (x ∷ y ∷ os) at many tests =
        let same : o ≡ x = cc in
        subst (λ z. Cuts (z ∷ y ∷ os)) same
        (subst (λ b. IsTest (order_view o ∷ map order_view (y ∷ os)) col (may_precede (order_view o ∷ map order_view (y ∷ os)) b) e) last_is
        (item_test (order_view o) (map order_view (y ∷ os)) column col (λ v. not (is_before o.descending bound v)) e is tests))

-- ---- what a step made

pub compared_as : (r : Result (Option TruthExpr) AllocError) (o : ComparisonOperator) (column : PlainColumn) (kind : ColumnKind) (given value : CellValue) (tree : TruthExprOf)
    → column.kind ≡ kind → given ≡ value → IsComparison o (plain_at kind column.place) value tree
    → IfOk r (λ made. IfSome made (λ e. truth_view e ≡ tree)) → IfOk r (λ made. IfSome made (λ e. IsComparison o column given (truth_view e)))
compared_as (Ok None) o column kind given value tree k v is h = tt
compared_as (Ok (Some e)) o column kind given value tree k v is h =
    subst (λ k. IsComparison o (plain_at k column.place) given (truth_view e)) (sym k)
    (subst (λ v. IsComparison o (plain_at kind column.place) v (truth_view e)) (sym v) (subst (IsComparison o (plain_at kind column.place) value) (sym h) is))
compared_as (Err fault) o column kind given value tree k v is h = h

pub made_as : (r : Result (Option TruthExpr) AllocError) (P Q : TruthExprOf → Type 0) → ((e : TruthExprOf) → P e → Q e)
    → IfOk r (λ made. IfSome made (λ e. P (truth_view e))) → IfOk r (λ made. IfSome made (λ e. Q (truth_view e)))
made_as (Ok None) P Q f h = tt
made_as (Ok (Some e)) P Q f h = f (truth_view e) h
made_as (Err fault) P Q f h = h
