use Rattle.query_exec.proofs.SliceLemmas.{asked, slice_gives}
use Rattle.query_exec.proofs.slice.SliceSink.finish.Goals as goal

pub returns : goal.returns
returns c = slice_gives c.args.self c.into_rows.result (rw (c.then_some.ensures, asked c.args.self.slice.counts c.args.self.count) at c.into_rows.ensures)
