use Rattle.std.proofs.Common.{◌≡◌, drop, map}
use Rattle.query_plan.specs.Scan.{test_view}
use Rattle.query_exec.specs.Admitted.{ranges_admit}
use Rattle.query_exec.proofs.admitted.admits_all.Given as goal

-- what is left decides
abbrev pub invariant-loop-asked : goal.invariant-loop-asked
invariant-loop-asked l = ranges_admit (map test_view l.tests) l.summary ≡ ranges_admit (map test_view (drop l.asked-index l.tests)) l.summary
