use Rattle.std.proofs.Common.{subst}
use Rattle.sort_rows.specs.Runs.{IsStream}
use Rattle.result_rows.proofs.CutLemmas.{slice_rises}
use Rattle.result_rows.proofs.skip.+middle.Goals as goal

pub front_of-end-requires-clause-rising : goal.front_of-end-requires-clause-rising
front_of-end-requires-clause-rising t c =
    let columns = c.args.plain.now in
    let rows = c.args.columns.now.rows in
    let is = subst (IsStream columns rows) c.in-Run.is c.requires.streams in
    slice_rises columns rows c.in-Run.run'.items c.deref.result.now c.in-Run.taken c.deref.ensures.value is.rising
