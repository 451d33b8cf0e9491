use Rattle.std.proofs.Common.{map}
use Rattle.query_plan.specs.Scan.{test_view}
use Rattle.query_exec.proofs.AdmittedLemmas.{AreAdmitted}
use Rattle.query_exec.proofs.admitted.admitted.Given as goal

-- the numbers so far
abbrev pub invariant-loop-number : goal.invariant-loop-number
invariant-loop-number l = AreAdmitted (map test_view l.tests) l.summaries l.number l.numbers.items
