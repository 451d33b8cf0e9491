use Rattle.std.specs.Prelude.{not}
use Rattle.cell_types.specs.Value.{value_view}
use Rattle.sort_rows.specs.Cutoffs.{is_before, IsTestOfColumn}
use Rattle.sort_rows.proofs.ColumnTestLemmas.{made_as, test_as, turned}
use Rattle.sort_rows.proofs.cutoffs.is_not_after.Goals as goal

pub returns : goal.returns
returns c =
    let column = c.args.column in
    let descending = c.args.descending in
    let bound = value_view c.args.bound.now in
    made_as c.opposite.result (IsTestOfColumn column (λ v. not (is_before (not descending) v bound))) (IsTestOfColumn column (λ v. not (is_before descending bound v)))
    (λ e. test_as column (λ v. not (is_before (not descending) v bound)) (λ v. not (is_before descending bound v)) e (turned descending bound))
    (c.opposite.ensures column (λ v. is_before (not descending) v bound) c.in_ok-after.ensures)
