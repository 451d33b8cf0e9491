use Rattle.std.proofs.Common.{◌≡◌, ℕ, List, [], filter, get_or}
use Rattle.std.proofs.lemmas.Result.{IfOk-weaker}
use Rattle.typed_trees.specs.TypedTree.{truth_view}
use Rattle.query_meaning.specs.Filter.{passes}
use Rattle.query_exec.specs.Cutoffs.{CutsOff}
use Rattle.query_exec.specs.Sink.{sink_items}
use Rattle.query_exec.specs.TopN.{AreTimely}
use Rattle.query_exec.proofs.CutoffLemmas.{passing_are_timely}
use Rattle.query_exec.proofs.top_n.TopNSink.timely.Goals as goal

pub passing_numbers-requires-clause-fits : goal.passing_numbers-requires-clause-fits
passing_numbers-requires-clause-fits c =
    let s = c.args.self.now in
    let cuts : CutsOff (sink_items s) s.most s.kept (truth_view c.in-Some.cutoff) = rw c.in-Some.is at c.requires.cutoff in
    λ k d h. cuts.fits (get_or c.args.block.now.rows k d)

pub returns-in-Some : goal.returns-in-Some
returns-in-Some c =
    let s = c.args.self.now in
    let rows = c.args.block.now.rows in
    let numbers = c.args.numbers in
    let e = truth_view c.in-Some.cutoff in
    let cuts : CutsOff (sink_items s) s.most s.kept e = rw c.in-Some.is at c.requires.cutoff in
    IfOk-weaker c.passing_numbers.result (λ made. made ≡ filter (λ n. passes e (get_or rows n [])) numbers) (AreTimely s rows numbers)
    (λ (made : List ℕ) is. passing_are_timely s e rows numbers made cuts c.requires.days c.requires.within is) c.passing_numbers.ensures
