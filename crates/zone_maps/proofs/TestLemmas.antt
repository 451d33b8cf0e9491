-- Tests of a column against a literal, and what the range of the column tells of them.
use Rattle.std.proofs.Common.{◌≡◌, ◌<◌, ℕ, zero, suc, Bool, true, false, Option, Some, None, List, [], ◌∷◌, length, refl, sym, ap, ◌∙◌, subst}
use Rattle.std.specs.Prelude.{ℤ, ◌≢◌, not, slice_index_or}
use Rattle.std.specs.Cmp.Lexicographic.{slice_cmp}
use Rattle.std.specs.Ordering.{int_cmp, is_gt, is_lt, nat_cmp, ordering_reverse}
use Rattle.std.specs.declared.cmp.Ordering.{Ordering}
use Rattle.std.specs.declared.cmp.Ordering.TheVariants as order
use Rattle.std.proofs.lemmas.Bool.{true≢false, false≢true}
use Rattle.cell_types.specs.Column.{ColumnOf}
use Rattle.cell_types.specs.Kind.{is_of_kind, number_in, typed_cell, HasRealDay}
use Rattle.cell_types.specs.Laws.{DatesReadBack, NumbersStandForCells, ValuesAreOrdered}
use Rattle.cell_types.specs.Rows.{IsTableRow}
use Rattle.cell_types.specs.Value.{CellValue, null, integer, text, boolean, value_cmp, value_view}
use Rattle.block_summary.specs.Laws.{SkipsNoRow}
use Rattle.block_summary.specs.Ranges.{RangeOf, is_null, no_range}
use Rattle.block_summary.specs.Tests.{admits, are_ordered, equals, test_passes}
use Rattle.block_summary.specs.declared.test.Test.{Test}
use Rattle.cell_types.specs.declared.comparison.ComparisonOperator.{ComparisonOperator}
use Rattle.cell_types.specs.declared.kind.ColumnKind.{ColumnKind}
use Rattle.cell_types.specs.declared.kind.ColumnKind.TheVariants.{Text, Number}
use Rattle.cell_types.specs.declared.kind.NumberKind.{NumberKind}
use Rattle.cell_types.specs.declared.comparison.ComparisonOperator.TheVariants as operators
use Rattle.row_eval.specs.declared.truth.Truth.{Truth}
use Rattle.row_eval.specs.Comparison.{compared, holds}
use Rattle.row_eval.specs.Logic.{truth_of}
use Rattle.zone_maps.specs.Known.{cell_at_place, holds_between, opposite_of, cell_passes, Encloses, Says}

-- ---- what a range does not admit

pub fails-each : SkipsNoRow → (ranges : List RangeOf) (place : ℕ) (test : Test) → place < length ranges → admits test.op (slice_index_or ranges place no_range) (value_view test.literal) ≡ false
    → Says ranges place test false
fails-each law ranges place test inside none cells is =
    subst (λ cs. cell_passes test (cell_at_place cs place) ≡ false) (sym is.cells_are) (law test.op ranges is.rows place (value_view test.literal) is.are_ranges inside none is.row is.within)

pub no-null : (cell : CellValue) → test_passes operators.Equal cell null ≡ false → is_null cell ≡ false
unfolding value_cmp
no-null null h = absurd (true≢false h)
no-null cell h = refl

same_of : (a b : CellValue) (r : Ordering) → value_cmp a b ≡ r → test_passes operators.NotEqual a b ≡ false → value_cmp a b ≡ order.Equal
same_of a b order.Less e h = absurd (cc)
same_of a b order.Equal e h = e
same_of a b order.Greater e h = absurd (cc)

pub no-other : ValuesAreOrdered → (cell value : CellValue) → test_passes operators.NotEqual cell value ≡ false → cell ≡ value
no-other law cell value h = law.same cell value (same_of cell value (value_cmp cell value) refl h)

-- ---- the opposite of a test

not_not : (b : Bool) → b ≡ not (not b)
not_not true = refl
not_not false = refl

order_opposed : (op : ComparisonOperator) (a b : CellValue) (r : Ordering) → is_null a ≡ false → is_null b ≡ false → value_cmp a b ≡ r → test_passes (opposite_of op) a b ≡ not (test_passes op a b)
order_opposed operators.Equal a b r e f is = refl
order_opposed operators.NotEqual a b r e f is = not_not (equals a b)
order_opposed operators.GreaterThan a b order.Less e f is = rw (e, f, is) refl
order_opposed operators.GreaterThan a b order.Equal e f is = rw (e, f, is) refl
order_opposed operators.GreaterThan a b order.Greater e f is = rw (e, f, is) refl
order_opposed operators.GreaterOrEqual a b order.Less e f is = rw (e, f, is) refl
order_opposed operators.GreaterOrEqual a b order.Equal e f is = rw (e, f, is) refl
order_opposed operators.GreaterOrEqual a b order.Greater e f is = rw (e, f, is) refl
order_opposed operators.LessThan a b order.Less e f is = rw (e, f, is) refl
order_opposed operators.LessThan a b order.Equal e f is = rw (e, f, is) refl
order_opposed operators.LessThan a b order.Greater e f is = rw (e, f, is) refl
order_opposed operators.LessOrEqual a b order.Less e f is = rw (e, f, is) refl
order_opposed operators.LessOrEqual a b order.Equal e f is = rw (e, f, is) refl
order_opposed operators.LessOrEqual a b order.Greater e f is = rw (e, f, is) refl

pub is-opposed : (op : ComparisonOperator) (a b : CellValue) → op ≡ operators.Equal → test_passes (opposite_of op) a b ≡ not (test_passes op a b)
is-opposed op a b e = rw e refl

pub is_not-opposed : (op : ComparisonOperator) (a b : CellValue) → op ≡ operators.NotEqual → test_passes (opposite_of op) a b ≡ not (test_passes op a b)
is_not-opposed op a b e = rw e (not_not (equals a b))

pub values-opposed : (op : ComparisonOperator) (a b : CellValue) → is_null a ≡ false → is_null b ≡ false → test_passes (opposite_of op) a b ≡ not (test_passes op a b)
values-opposed op a b e f = order_opposed op a b (value_cmp a b) e f refl

-- ---- the kinds of values

pub as-test : (test : Test) (op : ComparisonOperator) (literal cell : CellValue) → test.op ≡ op → value_view test.literal ≡ literal → cell_passes test cell ≡ false → test_passes op cell literal ≡ false
as-test test op literal cell e f h = ap (λ o. test_passes o cell literal) (sym e) ∙ ap (test_passes test.op cell) (sym f) ∙ h

tests_order : (p : Ordering → Bool) (v b : CellValue) → is_null v ≡ false → is_null b ≡ false → are_ordered p v b ≡ p (value_cmp v b)
tests_order p v b e f = rw (e, f) refl

-- what is neither less than a value of a kind nor greater than another is between them
not_before : ValuesAreOrdered → (least cell : CellValue) → is_null least ≡ false → is_null cell ≡ false → test_passes operators.LessThan cell least ≡ false → value_cmp least cell ≢ order.Greater
not_before law least cell l c before greater =
    true≢false (sym (ap is_lt (law.total.antisymm cell least ∙ ap ordering_reverse greater)) ∙ sym (tests_order is_lt cell least c l) ∙ before)

not_after : (cell greatest : CellValue) → is_null greatest ≡ false → is_null cell ≡ false → test_passes operators.GreaterThan cell greatest ≡ false → value_cmp cell greatest ≢ order.Greater
not_after cell greatest g c after greater = true≢false (sym (ap is_gt greater) ∙ sym (tests_order is_gt cell greatest c g) ∙ after)

pub numbers-around : ValuesAreOrdered → (kind : ColumnKind) (least greatest cell : CellValue) → is_of_kind kind least ≡ true → is_of_kind kind greatest ≡ true → is_null least ≡ false
    → is_null greatest ≡ false → test_passes operators.LessThan cell least ≡ false → test_passes operators.GreaterThan cell greatest ≡ false → is_of_kind kind cell ≡ true
numbers-around law kind least greatest null l g some too before after = refl
numbers-around law kind least greatest cell l g some too before after =
    law.together kind least greatest cell l g some (not_before law least cell some refl before) (not_after cell greatest too refl after)

pub texts-around : (cell : CellValue) → test_passes operators.LessThan cell (text []) ≡ false → test_passes operators.GreaterOrEqual cell (boolean false) ≡ false → is_of_kind Text cell ≡ true
unfolding value_cmp
texts-around null h g = refl
texts-around (text t) h g = refl
texts-around (integer z) h g = absurd (true≢false h)
texts-around (boolean true) h g = absurd (true≢false g)
texts-around cell h g = absurd (true≢false g)

-- what passes neither of two tests by the values of two numbers of a kind is of that kind
pub between-numbers : NumbersStandForCells → ValuesAreOrdered → (kind : NumberKind) (least greatest : ℤ) (before behind : Test) → before.op ≡ operators.LessThan
    → value_view before.literal ≡ typed_cell kind least → behind.op ≡ operators.GreaterThan → value_view behind.literal ≡ typed_cell kind greatest → Encloses (Number kind) before behind
between-numbers numbers values kind least greatest before behind e f g h cell b a =
    numbers-around values (Number kind) (typed_cell kind least) (typed_cell kind greatest) cell (numbers.of_kind kind least) (numbers.of_kind kind greatest) (numbers.value kind least)
    (numbers.value kind greatest) (as-test before operators.LessThan _ cell e f b) (as-test behind operators.GreaterThan _ cell g h a)

-- ---- comparisons of cells of a kind are tests

null_null : (o : ComparisonOperator) → holds o (Some order.Equal) ≡ test_passes o null null
unfolding value_cmp
null_null operators.Equal = refl
null_null operators.NotEqual = refl
null_null operators.GreaterThan = refl
null_null operators.GreaterOrEqual = refl
null_null operators.LessThan = refl
null_null operators.LessOrEqual = refl

null_value : (o : ComparisonOperator) (b : CellValue) → value_cmp null b ≡ order.Less → holds o None ≡ test_passes o null b
null_value operators.Equal b less = rw less refl
null_value operators.NotEqual b less = rw less refl
null_value operators.GreaterThan b less = refl
null_value operators.GreaterOrEqual b less = rw less refl
null_value operators.LessThan b less = refl
null_value operators.LessOrEqual b less = rw less refl

value_null : (o : ComparisonOperator) (a : CellValue) → is_null a ≡ false → value_cmp a null ≡ order.Greater → holds o None ≡ test_passes o a null
value_null operators.Equal a e more = rw more refl
value_null operators.NotEqual a e more = rw more refl
value_null operators.GreaterThan a e more = rw e refl
value_null operators.GreaterOrEqual a e more = rw (e, more) refl
value_null operators.LessThan a e more = rw e refl
value_null operators.LessOrEqual a e more = rw (e, more) refl

two_values : (o : ComparisonOperator) (a b : CellValue) (r : Ordering) → is_null a ≡ false → is_null b ≡ false → value_cmp a b ≡ r → holds o (Some r) ≡ test_passes o a b
two_values operators.Equal a b order.Less e f is = rw is refl
two_values operators.Equal a b order.Equal e f is = rw is refl
two_values operators.Equal a b order.Greater e f is = rw is refl
two_values operators.NotEqual a b order.Less e f is = rw is refl
two_values operators.NotEqual a b order.Equal e f is = rw is refl
two_values operators.NotEqual a b order.Greater e f is = rw is refl
two_values operators.GreaterThan a b order.Less e f is = rw (e, f, is) refl
two_values operators.GreaterThan a b order.Equal e f is = rw (e, f, is) refl
two_values operators.GreaterThan a b order.Greater e f is = rw (e, f, is) refl
two_values operators.GreaterOrEqual a b order.Less e f is = rw (e, f, is) refl
two_values operators.GreaterOrEqual a b order.Equal e f is = rw (e, f, is) refl
two_values operators.GreaterOrEqual a b order.Greater e f is = rw (e, f, is) refl
two_values operators.LessThan a b order.Less e f is = rw (e, f, is) refl
two_values operators.LessThan a b order.Equal e f is = rw (e, f, is) refl
two_values operators.LessThan a b order.Greater e f is = rw (e, f, is) refl
two_values operators.LessOrEqual a b order.Less e f is = rw (e, f, is) refl
two_values operators.LessOrEqual a b order.Equal e f is = rw (e, f, is) refl
two_values operators.LessOrEqual a b order.Greater e f is = rw (e, f, is) refl

-- what has a number is a value, after null
a_value : NumbersStandForCells → (kind : NumberKind) (v : CellValue) (n : ℤ) → HasRealDay v → number_in kind v ≡ Some n → is_null v ≡ false
a_value numbers kind v n day e = ap is_null (numbers.cell kind v n day e).1 ∙ numbers.value kind n

before_all : ValuesAreOrdered → (v : CellValue) → is_null v ≡ false → value_cmp null v ≡ order.Less
before_all values v some = values.null_first v (λ e. true≢false (sym (ap is_null e) ∙ some))

-- values of a kind of numbers are compared as their numbers
numbers-alike : NumbersStandForCells → ValuesAreOrdered → (kind : NumberKind) (o : ComparisonOperator) (a b : CellValue) → is_of_kind (Number kind) a ≡ true → is_of_kind (Number kind) b ≡ true
    → HasRealDay a → HasRealDay b → (x y : Option ℤ) → number_in kind a ≡ x → number_in kind b ≡ y → holds o (compared int_cmp x y) ≡ test_passes o a b
numbers-alike numbers values kind o a b f g p q None None e h =
    null_null o ∙ ap (λ v. test_passes o v null) (sym (numbers.only_null kind a f e)) ∙ ap (test_passes o a) (sym (numbers.only_null kind b g h))
numbers-alike numbers values kind o a b f g p q None (Some m) e h =
    let some = a_value numbers kind b m q h in
    null_value o b (before_all values b some) ∙ ap (λ v. test_passes o v b) (sym (numbers.only_null kind a f e))
numbers-alike numbers values kind o a b f g p q (Some n) None e h =
    let some = a_value numbers kind a n p e in
    value_null o a some (values.total.antisymm a null ∙ ap ordering_reverse (before_all values a some)) ∙ ap (test_passes o a) (sym (numbers.only_null kind b g h))
numbers-alike numbers values kind o a b f g p q (Some n) (Some m) e h =
    let left = numbers.cell kind a n p e in
    let right = numbers.cell kind b m q h in
    two_values o a b (int_cmp n m) (a_value numbers kind a n p e) (a_value numbers kind b m q h)
    (ap (λ v. value_cmp v b) left.1 ∙ ap (value_cmp (typed_cell kind n)) right.1 ∙ numbers.order kind n m left.0 right.0)

pub tests-alike : NumbersStandForCells → ValuesAreOrdered → (kind : ColumnKind) (o : ComparisonOperator) (a b : CellValue) → is_of_kind kind a ≡ true → is_of_kind kind b ≡ true
    → HasRealDay a → HasRealDay b → holds_between kind o a b ≡ test_passes o a b
unfolding value_cmp
tests-alike numbers values (Number kind) o a b h g p q = numbers-alike numbers values kind o a b h g p q (number_in kind a) (number_in kind b) refl refl
tests-alike numbers values Text o null null h g p q = null_null o
tests-alike numbers values Text o null (text y) h g p q = null_value o (text y) refl
tests-alike numbers values Text o null _ h g p q = absurd (false≢true g)
tests-alike numbers values Text o (text x) null h g p q = value_null o (text x) refl refl
tests-alike numbers values Text o (text x) (text y) h g p q = two_values o (text x) (text y) (slice_cmp nat_cmp x y) refl refl refl
tests-alike numbers values Text o (text x) _ h g p q = absurd (false≢true g)
tests-alike numbers values Text o _ _ h g p q = absurd (false≢true h)

-- the cells of a row of a table have real days
pub row-day : DatesReadBack → (columns : List ColumnOf) (row : List CellValue) (place : ℕ) → IsTableRow columns row → HasRealDay (cell_at_place row place)
row-day dates [] [] place h = tt
row-day dates [] (v ∷ vs) place h = absurd h
row-day dates (c ∷ cs) [] place h = absurd h
row-day dates (c ∷ cs) (v ∷ vs) zero h = dates.columns c v h.0
row-day dates (c ∷ cs) (v ∷ vs) (suc place) h = row-day dates cs vs place h.2

-- ---- where a test is known

pub comparison-known : NumbersStandForCells → ValuesAreOrdered → (kind : ColumnKind) (o : ComparisonOperator) (a b : CellValue) (holds : Bool) (truth : Truth) → is_of_kind kind a ≡ true
    → is_of_kind kind b ≡ true → HasRealDay a → HasRealDay b → test_passes o a b ≡ holds → truth ≡ truth_of holds → truth_of (holds_between kind o a b) ≡ truth
comparison-known numbers values kind o a b holds truth f g p q is t = ap truth_of (tests-alike numbers values kind o a b f g p q ∙ is) ∙ sym t
