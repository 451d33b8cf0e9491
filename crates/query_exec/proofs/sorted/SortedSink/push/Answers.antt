use Rattle.query_exec.proofs.SortedLemmas.{all_of_table, has_more_rows, kept_fit, sorted_pushed}
use Rattle.query_exec.proofs.sorted.SortedSink.push.Goals as goal

pub keep_shown-requires-clause-columns : goal.keep_shown-requires-clause-columns
keep_shown-requires-clause-columns c =
    let may = c.requires in
    all_of_table c.args.self.now.kept c.args.self.now.shown may.before c.args.block.now.schema may.columns may.pushed.shown_is

pub push-requires-clause-more : goal.push-requires-clause-more
push-requires-clause-more c =
    rw c.deref.ensures.value (has_more_rows c.args.self.now c.take.new.self c.args.block.now c.args.found c.requires c.in_ok-take.ensures)

pub push-requires-clause-fits : goal.push-requires-clause-fits
push-requires-clause-fits c =
    rw c.deref.ensures.value (kept_fit c.args.self.now c.take.new.self c.args.block.now c.args.found c.requires c.in_ok-take.ensures)

pub returns : goal.returns
returns c =
    sorted_pushed c.args.self.now c.take.new.self c.keep_shown.new.shown c.push.new.self c.args.block.now.rows c.args.found c.in_ok-take.ensures c.in_ok-keep_shown.ensures
    (rw c.deref.ensures.value at c.in_ok-push.ensures)
