use Rattle.std.proofs.Common.{map, sym, ◌∙◌}
use Rattle.query_plan.specs.Scan.{test_view}
use Rattle.query_exec.proofs.AdmittedLemmas.{one_admitted, one_passed_over}
use Rattle.query_exec.proofs.admitted.admitted.Goals as goal
use Rattle.query_exec.proofs.admitted.admitted.Goals.{then-admits_all+in_ok-push_back, else-admits_all}

pub loop-number-preserved : goal.loop-number-preserved
loop-number-preserved c =
    let tests = map test_view c.args.tests.now in
    let summaries = c.args.summaries.now in
    let i = c.loop-number.number in
    let ranges = c.index-summaries-number.result in
    let numbers = c.loop-number.numbers.items in
    elim c.if-admits_all.branch [
      | then-admits_all+in_ok-push_back w ↦
          rw (w.numbers-is, w.in_ok-push_back.ensures.items) (one_admitted tests summaries i ranges numbers c.loop-number-test.true c.index-summaries-number.is c.loop-number.invariant (sym c.admits_all.ensures ∙ w.if-admits_all.true))
      | else-admits_all w ↦
          rw w.numbers-is (one_passed_over tests summaries i ranges numbers c.loop-number-test.true c.index-summaries-number.is c.loop-number.invariant
          (sym c.admits_all.ensures ∙ w.if-admits_all.false))
    ]
