use Rattle.std.proofs.Common.{◌≡◌, ◌+◌, rules, subst}
use Rattle.std.specs.Prelude.{IfSome}
use Rattle.sort_rows.specs.Runs.{row_at, IsStream}
use Rattle.result_rows.proofs.CutLemmas.{less_len_is, slice_rises}
use Rattle.result_rows.proofs.skip.+ties_left.Goals as goal

pub front_of-requires-clause-rising : goal.front_of-requires-clause-rising
front_of-requires-clause-rising t c =
    let columns = c.args.plain.now in
    let rows = c.args.columns.now.rows in
    let is = subst (IsStream columns rows) c.in-Run.is c.requires.streams in
    slice_rises columns rows c.in-Run.run'.items c.deref.result.now c.in-Run.taken c.deref.ensures.value is.rising

pub returns-in-Run : goal.returns-in-Run
returns-in-Run t c =
    let columns = c.args.plain.now in
    let rows = c.args.columns.now.rows in
    subst (λ n. IfSome c.checked_sub.result (λ ties. ties + n ≡ c.args.most))
    (less_len_is columns rows (row_at rows c.args.pivot) c.args.stream.now c.in-Run.run' c.in-Run.taken c.front_of.result c.deref.result.now c.in-Run.is c.deref.ensures.value c.front_of.ensures)
    (search rules)
