use Rattle.std.proofs.Common.{◌≡◌, ap, false, rules, true}
use Rattle.std.specs.Prelude.{not}
use Rattle.block_summary.specs.Ranges.{is_null}
use Rattle.cell_types.specs.Value.{null, value_view}
use Rattle.row_eval.specs.Comparison.{holds}
use Rattle.cell_types.specs.declared.comparison.ComparisonOperator.TheVariants.{GreaterOrEqual, GreaterThan, NotEqual}
use Rattle.sort_rows.specs.Cutoffs.{is_before, order_between, IsTestOfColumn}
use Rattle.sort_rows.proofs.ColumnTestLemmas.{before_ascending, before_descending, before_null, made_as, test_as}
use Rattle.sort_rows.proofs.cutoffs.is_before.Goals as goal

pub returns-in-Null-true : goal.returns-in-Null-true
returns-in-Null-true c =
    let column = c.args.column in
    let bound = value_view c.args.bound.now in
    let at : bound ≡ null = ap value_view c.in-Null-true.is-0 in
    rw (c.in-Null-true.is-1, at)
    (made_as c.comparison.result (IsTestOfColumn column (λ v. holds NotEqual (order_between v null))) (IsTestOfColumn column (λ v. is_before true v null))
    (λ e. test_as column (λ v. holds NotEqual (order_between v null)) (λ v. is_before true v null) e before_null)
    (rw at at c.comparison.ensures))

pub returns-in_default-true : goal.returns-in_default-true
returns-in_default-true c =
    let column = c.args.column in
    let bound = value_view c.args.bound.now in
    let some : is_null bound ≡ false = search rules in
    rw c.in_default-true.is-1
    (made_as c.comparison-in_default-true.result (IsTestOfColumn column (λ v. holds GreaterThan (order_between v bound))) (IsTestOfColumn column (λ v. is_before true v bound))
    (λ e. test_as column (λ v. holds GreaterThan (order_between v bound)) (λ v. is_before true v bound) e (before_descending c.values_are_ordered.ensures.total bound some))
    c.comparison-in_default-true.ensures)

pub returns-in_ok-after-in_default-false : goal.returns-in_ok-after-in_default-false
returns-in_ok-after-in_default-false c =
    let column = c.args.column in
    let bound = value_view c.args.bound.now in
    let some : is_null bound ≡ false = search rules in
    rw c.in_default-false.is-1
    (made_as c.opposite.result (IsTestOfColumn column (λ v. not (holds GreaterOrEqual (order_between v bound)))) (IsTestOfColumn column (λ v. is_before false v bound))
    (λ e. test_as column (λ v. not (holds GreaterOrEqual (order_between v bound))) (λ v. is_before false v bound) e (before_ascending bound some))
    (c.opposite.ensures column (λ v. holds GreaterOrEqual (order_between v bound)) c.in_ok-after-in_default-false.ensures))
