use Rattle.query_exec.proofs.TopNLemmas.{cut_to, first_are_kept}
use Rattle.query_exec.proofs.top_n.TopNSink.cut.Goals as goal

pub cutoff_of-requires-clause-best : goal.cutoff_of-requires-clause-best
cutoff_of-requires-clause-best c =
    let s = c.args.self.now in
    first_are_kept s c.reduce.new.self c.in_ok-best.best.items c.in_ok-best.ensures
    (rw c.as_slice.ensures.value at c.in_ok-reduce.ensures)

pub returns : goal.returns
returns c =
    let s = c.args.self.now in
    cut_to c.best_in_pieces.ensures s c.reduce.new.self _ c.in_ok-best.best.items c.requires.fit c.in_ok-best.ensures
    (rw c.as_slice.ensures.value at c.in_ok-reduce.ensures) c.in_ok-self.ensures
