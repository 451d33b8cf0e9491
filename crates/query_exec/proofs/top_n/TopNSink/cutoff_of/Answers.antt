use Rattle.std.proofs.Common.{◌<◌, ◌≤◌, length, rules}
use Rattle.query_exec.specs.Sink.{sink_items}
use Rattle.query_exec.proofs.CutoffLemmas.{cutoff_made}
use Rattle.query_exec.proofs.TopNLemmas.{safe_never_faults}
use Rattle.query_exec.proofs.top_n.TopNSink.cutoff_of.Goals as goal

pub returns : goal.returns
returns c =
    let s = c.args.self.now in
    let never = safe_never_faults c.faults_are_foreseen.ensures (sink_items s) c.requires.safe in
    let some : 0 < s.most = search rules in
    let enough : s.most ≤ length s.kept.columns.rows = search rules in
    cutoff_made c.rows_are_cut_off.ensures s c.in-Some.col c.cutoff.result never c.requires.best some enough c.in-Some.ensures (rw c.deref.ensures.value at c.cutoff.ensures)
