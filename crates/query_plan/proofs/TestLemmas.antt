-- A row on which a comparison of a column with a literal is true passes its test.
use Rattle.std.proofs.Common.{◌≡◌, ℕ, ℤ, zero, suc, Bool, true, false, cond, Option, Some, None, List, [], ◌∷◌, get_or, refl, sym, ap, ◌∙◌, subst}
use Rattle.std.specs.Prelude.{neg_ℤ, nat_le, option_and_then, option_map, pos, slice_get, unsigned_abs, ◌*ℤ◌, ◌*◌}
use Rattle.std.specs.Cmp.Lexicographic.{slice_cmp}
use Rattle.std.specs.Ordering.{bool_cmp, int_cmp, is_eq, nat_cmp}
use Rattle.std.specs.declared.cmp.Ordering.{Ordering}
use Rattle.std.specs.declared.cmp.Ordering.TheVariants.{Less, Equal, Greater}
use Rattle.std.proofs.lemmas.Bool.{false≢true}
use Rattle.block_summary.specs.Ranges.{is_null}
use Rattle.block_summary.specs.Tests.{test_passes as passes_comparison}
use Rattle.cell_types.specs.declared.kind.ColumnKind.TheVariants.{Text, Number}
use Rattle.cell_types.specs.Kind.{is_of_kind, number_cell}
use Rattle.cell_types.specs.Column.{ColumnOf}
use Rattle.cell_types.specs.Rows.{IsTableRow}
use Rattle.cell_types.specs.Value.{CellValue, boolean, date, decimal, integer, null, text, value_cmp}
use Rattle.cell_types.specs.declared.comparison.ComparisonOperator.{ComparisonOperator}
use Rattle.cell_types.specs.declared.comparison.ComparisonOperator.TheVariants as op
use Rattle.cell_types.specs.declared.kind.ColumnKind.{ColumnKind}
use Rattle.odata_types.specs.declared.types.ExprType.{ExprType}
use Rattle.odata_types.specs.declared.types.ExprType.TheVariants as kind
use Rattle.cell_types.specs.declared.kind.NumberKind.{NumberKind}
use Rattle.cell_types.specs.declared.kind.NumberKind.TheVariants as numbers
use Rattle.typed_trees.specs.declared.tree.TheConstants.{MILLIONTHS}
use Rattle.odata_types.specs.declared.types.TheConstants.{MOST_SIZE}
use Rattle.odata_types.specs.Columns.{InputOf}
use Rattle.typed_trees.specs.TypedTree as typed
use Rattle.typed_trees.specs.TypedTree.{NumberExprOf, TextExprOf, TruthExprOf}
use Rattle.typed_trees.specs.Plain.{kind_expr}
use Rattle.odata_types.specs.Typing.{column_expr, type_of}
use Rattle.row_eval.specs.declared.truth.Truth.{Truth}
use Rattle.row_eval.specs.Comparison.{compared, holds}
use Rattle.odata_types.specs.Input.{IsOfKind, IsRowOf}
use Rattle.row_eval.specs.Logic.{option_of_truth, truth_of, truth_of_option}
use Rattle.row_eval.specs.Outcome.{both, number_outcome, or_null, text_outcome, truth_outcome}
use Rattle.row_eval.specs.Row.{boolean_in, cell, number_in, text_in}
use Rattle.query_meaning.specs.Filter.{is_true, passes}
use Rattle.zone_maps.specs.Numbers.{NumbersAreTested}
use Rattle.query_plan.specs.Scan.{TestOf, passes_test}
use Rattle.query_plan.specs.Tests.{compared_with, literal_number, number_value, scaled_number, test_of, text_value, truth_value}
use Rattle.query_plan.specs.Types.{IsTruthOver, column_kind, number_type}
use Rattle.query_plan.proofs.ValueLemmas.{OfColumn, value_fits}

-- ---- values of one type

-- two values that are no null, by their order
values_pass : (o : ComparisonOperator) (v w : CellValue) (r : Ordering) → is_null v ≡ false → is_null w ≡ false → value_cmp v w ≡ r → holds o (Some r) ≡ true
    → passes_comparison o v w ≡ true
values_pass op.Equal v w Equal nv nw e h = rw e refl
values_pass op.NotEqual v w Less nv nw e h = rw e refl
values_pass op.NotEqual v w Greater nv nw e h = rw e refl
values_pass op.GreaterThan v w Greater nv nw e h = rw nv (rw nw (rw e refl))
values_pass op.GreaterOrEqual v w Greater nv nw e h = rw nv (rw nw (rw e refl))
values_pass op.GreaterOrEqual v w Equal nv nw e h = rw nv (rw nw (rw e refl))
values_pass op.LessThan v w Less nv nw e h = rw nv (rw nw (rw e refl))
values_pass op.LessOrEqual v w Less nv nw e h = rw nv (rw nw (rw e refl))
values_pass op.LessOrEqual v w Equal nv nw e h = rw nv (rw nw (rw e refl))
values_pass o v w r nv nw e h = absurd (false≢true h)

nulls_pass : (o : ComparisonOperator) → holds o (Some Equal) ≡ true → passes_comparison o null null ≡ true
unfolding value_cmp
nulls_pass op.Equal h = refl
nulls_pass op.GreaterOrEqual h = refl
nulls_pass op.LessOrEqual h = refl
nulls_pass o h = absurd (false≢true h)

-- a null beside a value
one_passes : (o : ComparisonOperator) (v w : CellValue) → is_eq (value_cmp v w) ≡ false → holds o None ≡ true → passes_comparison o v w ≡ true
one_passes op.NotEqual v w e h = rw e refl
one_passes o v w e h = absurd (false≢true h)

-- the values of a type, and their order
record IsKindOf {X : Type 0} (make : X → CellValue) (cmp : X → X → Ordering) : Type 0 where
  pub value : (x : X) → is_null (make x) ≡ false
  pub order : (x y : X) → value_cmp (make x) (make y) ≡ cmp x y
  pub before : (x : X) → is_eq (value_cmp null (make x)) ≡ false
  pub behind : (x : X) → is_eq (value_cmp (make x) null) ≡ false

kind_passes : {X : Type 0} (make : X → CellValue) (cmp : X → X → Ordering) → IsKindOf make cmp → (o : ComparisonOperator) (a b : Option X)
    → holds o (compared cmp a b) ≡ true → passes_comparison o (or_null make a) (or_null make b) ≡ true
kind_passes make cmp is o None None h = nulls_pass o h
kind_passes make cmp is o None (Some y) h = one_passes o null (make y) (is.before y) h
kind_passes make cmp is o (Some x) None h = one_passes o (make x) null (is.behind x) h
kind_passes make cmp is o (Some x) (Some y) h = values_pass o (make x) (make y) (cmp x y) (is.value x) (is.value y) (is.order x y) h

texts : IsKindOf text (slice_cmp nat_cmp)
unfolding value_cmp
texts = record { value = λ x. refl; order = λ x y. refl; before = λ x. refl; behind = λ x. refl }

booleans : IsKindOf boolean bool_cmp
unfolding value_cmp
booleans = record { value = λ x. refl; order = λ x y. refl; before = λ x. refl; behind = λ x. refl }

-- ---- the cell of a column

cell_at : {X : Type 0} (read : CellValue → Option X) → read null ≡ None → (row : List CellValue) (place : ℕ) → cell read row place ≡ read (get_or row place null)
cell_at read e [] place = sym e
cell_at read e (v ∷ vs) zero = refl
cell_at read e (v ∷ vs) (suc place) = cell_at read e vs place

-- a value of a column of a type is null or a value of the type
record Reads {X : Type 0} (make : X → CellValue) (read : CellValue → Option X) (wanted : ExprType) : Type 0 where
  pub null_is : read null ≡ None
  pub each : (place : ℕ) (k : ColumnKind) (size : ℕ) (v : CellValue) → type_of (kind_expr place k size) ≡ wanted → IsOfKind k size v → v ≡ or_null make (read v)

text_cells : (place : ℕ) (k : ColumnKind) (size : ℕ) (v : CellValue) → type_of (kind_expr place k size) ≡ kind.Text → IsOfKind k size v → v ≡ or_null text (text_in v)
text_cells place Text size null e h = refl
text_cells place Text size (text t) e h = refl
text_cells place Text size v e h = absurd h
text_cells place (Number numbers.Integer) size v e h = absurd (cc)
text_cells place (Number numbers.Decimal) size v e h = absurd (cc)
text_cells place (Number numbers.Boolean) size v e h = absurd (cc)
text_cells place (Number numbers.Date) size v e h = absurd (cc)

boolean_cells : (place : ℕ) (k : ColumnKind) (size : ℕ) (v : CellValue) → type_of (kind_expr place k size) ≡ kind.Boolean → IsOfKind k size v → v ≡ or_null boolean (boolean_in v)
boolean_cells place (Number numbers.Boolean) size null e h = refl
boolean_cells place (Number numbers.Boolean) size (boolean b) e h = refl
boolean_cells place (Number numbers.Boolean) size v e h = absurd h
boolean_cells place k size v e h = absurd (cc)

column_cell : {X : Type 0} (make : X → CellValue) (read : CellValue → Option X) (wanted : ExprType) → Reads make read wanted → (place : ℕ) (c : Option InputOf) (v : CellValue)
    → option_map (λ c. type_of (column_expr place c.column_type)) c ≡ Some wanted → OfColumn c v → v ≡ or_null make (read v)
column_cell make read wanted reads place None v e h = absurd (cc)
column_cell make read wanted reads place (Some c) v e h = let same : type_of (column_expr place c.column_type) ≡ wanted = cc in reads.each place c.column_type.kind c.column_type.size v same h

-- a value of a column of numbers is null or of the kind
number_cells : (n : NumberKind) (place : ℕ) (k : ColumnKind) (size : ℕ) (v : CellValue) → type_of (kind_expr place k size) ≡ number_type n → IsOfKind k size v → is_of_kind (Number n) v ≡ true
number_cells numbers.Integer place (Number numbers.Integer) size null e h = refl
number_cells numbers.Integer place (Number numbers.Integer) size (integer n) e h = refl
number_cells numbers.Integer place (Number numbers.Integer) size v e h = absurd h
number_cells numbers.Decimal place (Number numbers.Decimal) size null e h = refl
number_cells numbers.Decimal place (Number numbers.Decimal) size (decimal n) e h = refl
number_cells numbers.Decimal place (Number numbers.Decimal) size v e h = absurd h
number_cells numbers.Boolean place (Number numbers.Boolean) size null e h = refl
number_cells numbers.Boolean place (Number numbers.Boolean) size (boolean b) e h = refl
number_cells numbers.Boolean place (Number numbers.Boolean) size v e h = absurd h
number_cells numbers.Date place (Number numbers.Date) size null e h = refl
number_cells numbers.Date place (Number numbers.Date) size (date y m d) e h = refl
number_cells numbers.Date place (Number numbers.Date) size v e h = absurd h
number_cells n place k size v e h = absurd (cc)

column_number : (k : NumberKind) (place : ℕ) (c : Option InputOf) (v : CellValue) → option_map (λ c. type_of (column_expr place c.column_type)) c ≡ Some (number_type k) → OfColumn c v
    → is_of_kind (Number k) v ≡ true
column_number k place None v e h = absurd (cc)
column_number k place (Some c) v e h = let same : type_of (column_expr place c.column_type) ≡ number_type k = cc in number_cells k place c.column_type.kind c.column_type.size v same h

-- ---- literals

sized_is : (b : Bool) (z : ℤ) (n : Option ℤ) → cond b (Some (Some z)) None ≡ Some n → Some (Some z) ≡ Some n
sized_is true z n e = e
sized_is false z n e = absurd (cc)

scaled_is : (o n : Option ℤ) → scaled_number o ≡ Some n → Some (option_map (λ x. x *ℤ pos MILLIONTHS) o) ≡ Some n
scaled_is None n e = e
scaled_is (Some z) n e = sized_is (nat_le (unsigned_abs z * MILLIONTHS) MOST_SIZE) (z *ℤ pos MILLIONTHS) n e

then_scaled : (outcome : Option (Option ℤ)) (o : Option (Option ℤ)) (n : Option ℤ) → ((m : Option ℤ) → o ≡ Some m → outcome ≡ Some m) → option_and_then scaled_number o ≡ Some n
    → option_map (option_map (λ x. x *ℤ pos MILLIONTHS)) outcome ≡ Some n
then_scaled outcome None n each e = absurd (cc)
then_scaled outcome (Some m) n each e = ap (option_map (option_map (λ x. x *ℤ pos MILLIONTHS))) (each m refl) ∙ scaled_is m n e

-- a literal has its number on each row
number_is : (row : List CellValue) (b : NumberExprOf) (n : Option ℤ) → literal_number b ≡ Some n → number_outcome b row ≡ Some n
number_is row typed.null_number n e = e
number_is row (typed.number_literal z) n e = e
number_is row (typed.negated (typed.number_literal z)) n e = sized_is (nat_le (unsigned_abs z) MOST_SIZE) (neg_ℤ z) n e
number_is row (typed.scaled a) n e = then_scaled (number_outcome a row) (literal_number a) n (number_is row a) e
number_is row b n e = absurd (cc)

value_is : (k : NumberKind) (o : Option (Option ℤ)) (w : CellValue) → option_and_then (number_cell k) o ≡ Some w → (n : Option ℤ) × (o ≡ Some n) × (number_cell k n ≡ Some w)
value_is k None w e = absurd (cc)
value_is k (Some n) w e = (n, refl, e)

abbrev Literal : {X : Type 0} → (X → CellValue) → Option (Option X) → CellValue → Type 0
Literal {X} make outcome w = (y : Option X) × (outcome ≡ Some y) × (w ≡ or_null make y)

text_is : (row : List CellValue) (b : TextExprOf) (w : CellValue) → text_value b ≡ Some w → Literal text (Some (text_outcome b row)) w
text_is row typed.null_text w e = (None, refl, cc)
text_is row (typed.text_literal t) w e = (Some t, refl, cc)
text_is row b w e = absurd (cc)

truth_back : (o : Option Bool) → option_of_truth (truth_of_option o) ≡ o
truth_back None = refl
truth_back (Some true) = refl
truth_back (Some false) = refl

truth_is : (row : List CellValue) (b : TruthExprOf) (w : CellValue) → truth_value b ≡ Some w → Literal boolean (option_map option_of_truth (truth_outcome b row)) w
truth_is row typed.null_truth w e = (None, refl, cc)
truth_is row (typed.truth_literal b) w e = (Some b, ap Some (truth_back (Some b)), cc)
truth_is row b w e = absurd (cc)

-- ---- comparisons

holds_is : (b : Bool) → is_true (Some (truth_of b)) ≡ true → b ≡ true
holds_is true e = refl
holds_is false e = absurd (false≢true e)

-- where a comparison of a cell with a literal is true
module _ {X : Type 0} (make : X → CellValue) (cmp : X → X → Ordering) (read : CellValue → Option X) (wanted : ExprType) (is : IsKindOf make cmp) (reads : Reads make read wanted) where
  comparison_passes : (inputs : List InputOf) (row : List CellValue) → IsRowOf inputs row → (place : ℕ) → column_kind inputs place ≡ Some wanted
      → (o : ComparisonOperator) (outcome : Option (Option X)) (w : CellValue) → Literal make outcome w
      → is_true (both (λ x y. truth_of (holds o (compared cmp x y))) (Some (cell read row place)) outcome) ≡ true
      → passes_comparison o (get_or row place null) w ≡ true
  comparison_passes inputs row are place kinds o outcome w literal h =
      let v = get_or row place null in
      let y = literal.0 in
      let f = λ (x : Option X) (z : Option X). truth_of (holds o (compared cmp x z)) in
      let cells : v ≡ or_null make (read v) = column_cell make read wanted reads place (slice_get inputs place) v kinds (value_fits inputs row place are) in
      let at : is_true (both f (Some (read v)) (Some y)) ≡ true =
      sym (ap (λ (x : Option X). is_true (both f (Some x) (Some y))) (cell_at read reads.null_is row place))
      ∙ sym (ap (λ (z : Option (Option X)). is_true (both f (Some (cell read row place)) z)) literal.1) ∙ h in
      ap (λ (a : CellValue). passes_comparison o a w) cells
      ∙ ap (λ (a : CellValue). passes_comparison o (or_null make (read v)) a) literal.2
      ∙ kind_passes make cmp is o (read v) y (holds_is (holds o (compared cmp (read v) y)) at)

compared_is : (place : ℕ) (o : ComparisonOperator) (literal : Option CellValue) (t : TestOf) → compared_with place o literal ≡ Some t
    → (w : CellValue) × (literal ≡ Some w) × (record { column = place; op = o; literal = w } ≡ t)
compared_is place o None t e = absurd (cc)
compared_is place o (Some w) t e = (w, refl, cc)

-- truths are compared as what they stand for
truths_compared : (o : ComparisonOperator) (x : Option Bool) (b : Option Truth)
    → both (λ x y. truth_of (holds o (compared bool_cmp (option_of_truth x) (option_of_truth y)))) (Some (truth_of_option x)) b
    ≡ both (λ x y. truth_of (holds o (compared bool_cmp x y))) (Some x) (option_map option_of_truth b)
truths_compared o x None = refl
truths_compared o x (Some b) = ap (λ (z : Option Bool). Some (truth_of (holds o (compared bool_cmp z (option_of_truth b))))) (truth_back x)

-- a column of numbers that is compared with a literal passes the test of its value
number_passed : NumbersAreTested → (columns : List ColumnOf) (inputs : List InputOf) (row : List CellValue) → IsTableRow columns row → IsRowOf inputs row → (k : NumberKind) (place : ℕ) → column_kind inputs place ≡ Some (number_type k)
    → (o : ComparisonOperator) (b : NumberExprOf) (w : CellValue) → number_value k b ≡ Some w
    → is_true (both (λ x y. truth_of (holds o (compared int_cmp x y))) (Some (cell (number_in k) row place)) (number_outcome b row)) ≡ true
    → passes_comparison o (get_or row place null) w ≡ true
number_passed law columns inputs row fits are k place kinds o b w is h =
    let found = value_is k (literal_number b) w is in
    let n = found.0 in
    let f = λ (x : Option ℤ) (y : Option ℤ). truth_of (holds o (compared int_cmp x y)) in
    let at : is_true (both f (Some (cell (number_in k) row place)) (Some n)) ≡ true =
    sym (ap (λ (z : Option (Option ℤ)). is_true (both f (Some (cell (number_in k) row place)) z)) (number_is row b n found.1)) ∙ h in
    law columns row k o place n w fits (column_number k place (slice_get inputs place) (get_or row place null) kinds (value_fits inputs row place are)) found.2
    ∙ holds_is (holds o (compared int_cmp (cell (number_in k) row place) n)) at

pub test_passed : NumbersAreTested → (columns : List ColumnOf) (inputs : List InputOf) (row : List CellValue) → IsTableRow columns row → IsRowOf inputs row → (e : TruthExprOf) (t : TestOf) → IsTruthOver inputs e → test_of e ≡ Some t
    → passes e row ≡ true → passes_test row t ≡ true
test_passed law columns inputs row fits are (typed.compare_numbers o (typed.number_column k place) b) t over is h =
    let found = compared_is place o (number_value k b) t is in
    subst (λ (x : TestOf). passes_test row x ≡ true) found.2 (number_passed law columns inputs row fits are k place over.0 o b found.0 found.1 h)
test_passed law columns inputs row fits are (typed.compare_texts o (typed.text_column place) b) t over is h =
    let found = compared_is place o (text_value b) t is in
    subst (λ (x : TestOf). passes_test row x ≡ true) found.2
    (comparison_passes text (slice_cmp nat_cmp) text_in kind.Text texts (record { null_is = refl; each = text_cells }) inputs row are place over.0 o (Some (text_outcome b row)) found.0 (text_is row b found.0 found.1) h)
test_passed law columns inputs row fits are (typed.compare_truths o (typed.truth_column place) b) t over is h =
    let found = compared_is place o (truth_value b) t is in
    subst (λ (x : TestOf). passes_test row x ≡ true) found.2
    (comparison_passes boolean bool_cmp boolean_in kind.Boolean booleans (record { null_is = refl; each = boolean_cells }) inputs row are place over.0 o (option_map option_of_truth (truth_outcome b row)) found.0
    (truth_is row b found.0 found.1) (ap is_true (sym (truths_compared o (cell boolean_in row place) (truth_outcome b row))) ∙ h))
test_passed law columns inputs row fits are e t over is h = absurd (cc)
