use Rattle.std.proofs.Common.{◌≡◌, ◌∙◌, [], Some, ap, get_or, length, ltb, rules, subst, true}
use Rattle.std.specs.Prelude.{not, slice_get}
use Rattle.cell_types.specs.Value.{value_view}
use Rattle.order_columns.specs.Plain.{column_value}
use Rattle.sort_rows.specs.Cutoffs.{is_before, IsTestOfColumn}
use Rattle.sort_rows.proofs.ColumnTestLemmas.{Cuts, cutoff_among, made_as}
use Rattle.sort_rows.proofs.cutoffs.cutoff.Goals as goal

pub returns-then-items-gt1 : goal.returns-then-items-gt1
returns-then-items-gt1 c =
    let os = c.args.items.now in
    let o = c.in-Some.first.now in
    let column = c.in-Some-item_column.column in
    let bound = value_view c.column_value-bound.result in
    let last = get_or c.args.columns.now.rows c.args.last [] in
    let at : slice_get os 0 ≡ Some o = search rules in
    let is = c.in-Some-item_column.ensures in
    let value = c.column_value-bound.ensures ∙ ap (λ rows. column_value column (get_or rows c.args.last [])) c.of-columns.ensures in
    let many : ltb 1 (length os) ≡ true = search rules in
    made_as c.is_not_after.result (λ e. IsTestOfColumn c.moved-column.result (λ v. not (is_before o.descending bound v)) e)
    (λ e. Cuts o column c.args.col bound e is last value os)
    (λ e tests. cutoff_among o column c.args.col bound e is last value os at many
    (subst (λ k. IsTestOfColumn k (λ v. not (is_before o.descending bound v)) e) c.moved-column.ensures tests)) c.is_not_after.ensures
