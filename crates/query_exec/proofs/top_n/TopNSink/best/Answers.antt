use Rattle.std.proofs.Common.{length}
use Rattle.row_columns.specs.Picked.{numbered}
use Rattle.query_exec.specs.Sink.{sink_items}
use Rattle.row_columns.proofs.NumberedLaws.{all_numbered, all_within}
use Rattle.query_exec.proofs.TopNLemmas.{best_of, never_faults}
use Rattle.query_exec.proofs.top_n.TopNSink.best.Goals as goal

pub best_numbers-requires-clause-within : goal.best_numbers-requires-clause-within
best_numbers-requires-clause-within c = rw (c.of-columns.ensures, c.in_ok-all.ensures, c.len.ensures) (all_within (length c.args.self.now.kept.columns.rows))

pub best_numbers-requires-clause-fits : goal.best_numbers-requires-clause-fits
best_numbers-requires-clause-fits c =
    rw (c.of-columns.ensures, c.deref.ensures.value, c.in_ok-all.ensures, c.len.ensures, all_numbered c.args.self.now.kept.columns.rows) c.requires.fit

pub unreachable-requires : goal.unreachable-requires
unreachable-requires c =
    let s = c.args.self.now in
    never_faults c.faults_are_foreseen.ensures (sink_items s) s.most (numbered c.in_ok-all.all.items s.kept.columns.rows) c.requires.safe
    (rw (c.in-Err-DivisionByZero.field-0-is, c.of-columns.ensures, c.deref.ensures.value) at c.in-Err-DivisionByZero.ensures)

pub returns-in-Ok : goal.returns-in-Ok
returns-in-Ok c =
    best_of c.args.self.now c.in_ok-all.all.items c.in-Ok.best.items (rw c.len.ensures at c.in_ok-all.ensures) (rw c.of-columns.ensures at c.in-Ok.ensures.within)
    (rw (c.of-columns.ensures, c.deref.ensures.value) at c.in-Ok.ensures.made)
