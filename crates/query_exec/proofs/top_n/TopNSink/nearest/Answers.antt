use Rattle.std.proofs.Common.{◌≡◌, ◌≤◌, [], filter, get_or, length, rules}
use Rattle.cell_types.specs.Value.{value_view}
use Rattle.typed_trees.specs.TypedTree.{truth_view}
use Rattle.query_meaning.specs.Filter.{passes}
use Rattle.sort_rows.specs.Cutoffs.{is_near, IsTest}
use Rattle.query_exec.specs.Sink.{sink_items}
use Rattle.query_exec.proofs.CutoffLemmas.{near_are_timely}
use Rattle.query_exec.proofs.TopNLemmas.{safe_never_faults}
use Rattle.query_exec.proofs.top_n.TopNSink.nearest.Goals as goal

pub passing_numbers-requires-clause-fits : goal.passing_numbers-requires-clause-fits
passing_numbers-requires-clause-fits c = λ k d h.
    let is = rw c.in-Some-3.is at c.in_ok-condition.ensures in
    is.fits (get_or c.args.block.now.rows k d)

pub returns : goal.returns
returns c =
    let s = c.args.self.now in
    let rows = c.args.block.now.rows in
    let numbers = c.args.numbers in
    let bound = value_view c.in-Some-2.bound in
    let e = truth_view c.in-Some-3.condition in
    let is : IsTest (sink_items s) c.in-Some.col (is_near (sink_items s) bound) e =
    rw c.deref-2.ensures.value at (rw c.in-Some-3.is at c.in_ok-condition.ensures) in
    let near = c.in_ok-near.near in
    let made : near ≡ filter (λ n. passes e (get_or rows n [])) numbers = c.in_ok-near.ensures in
    let enough : s.most ≤ length near = search rules in
    near_are_timely c.rows_are_cut_off.ensures s e c.in-Some.col bound rows numbers near (safe_never_faults c.faults_are_foreseen.ensures (sink_items s) c.requires.safe) c.in-Some.ensures
    is c.requires.days c.requires.within made enough
