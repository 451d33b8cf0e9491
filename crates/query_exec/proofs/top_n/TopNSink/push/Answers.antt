use Rattle.query_exec.proofs.CutoffLemmas.{cutoff_more, timely_in_turn}
use Rattle.query_exec.proofs.TopNLemmas.{block_fits, top_n_pushed}
use Rattle.query_exec.proofs.top_n.TopNSink.push.Goals as goal

pub cut-requires-clause-fit : goal.cut-requires-clause-fit
cut-requires-clause-fit c =
    let old = c.args.self.now in
    let block = c.args.block.now in
    let found = c.args.found.rows in
    block_fits old c.take.new.self block c.args.found c.in_ok-rows.rows c.requires
    (timely_in_turn old block.rows found c.in_ok-before.before c.in_ok-rows.rows c.in_ok-before.ensures c.in_ok-rows.ensures) c.in_ok-take.ensures

pub cut-requires-clause-cutoff : goal.cut-requires-clause-cutoff
cut-requires-clause-cutoff c =
    let old = c.args.self.now in
    cutoff_more old c.take.new.self _ c.in_ok-take.ensures c.requires.pushed.cutoff

pub returns : goal.returns
returns c =
    let old = c.args.self.now in
    let rows = c.args.block.now.rows in
    let found = c.args.found.rows in
    top_n_pushed c.faults_are_foreseen.ensures c.best_in_pieces.ensures old c.cut.new.self c.take.new.self rows c.args.found c.in_ok-rows.rows c.requires.pushed.safe
    (timely_in_turn old rows found c.in_ok-before.before c.in_ok-rows.rows c.in_ok-before.ensures c.in_ok-rows.ensures) c.in_ok-take.ensures
    c.in_ok-cut.ensures
