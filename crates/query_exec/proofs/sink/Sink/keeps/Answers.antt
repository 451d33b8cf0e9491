use Rattle.std.proofs.Common.{length, min, ap, ◌∙◌}
use Rattle.query_exec.specs.declared.run_kept.RunKept.TheVariants.{Ordered}
use Rattle.query_exec.proofs.RunKeptLemmas.{as_many_best, groups_kept}
use Rattle.query_exec.proofs.sink.Sink.keeps.Goals as goal

pub returns-in-TopN : goal.returns-in-TopN
returns-in-TopN c = λ rows has.
    let s = c.in-TopN.sink in
    let best = rw c.in-TopN.is at has in
    rw c.in-TopN.is
    (ap Ordered
    (c.min.ensures ∙ ap (min s.most) c.len-in-TopN.ensures ∙ as_many_best c.faults_are_foreseen.ensures c.rows_are_in_order.ensures s rows best))

pub returns-in-Sorted : goal.returns-in-Sorted
returns-in-Sorted c = λ rows has.
    let order = rw c.in-Sorted.is at has in
    rw c.in-Sorted.is (ap Ordered (c.len-in-Sorted.ensures ∙ ap length order.rows_are))

pub returns-in-Aggregate : goal.returns-in-Aggregate
returns-in-Aggregate c = λ rows has.
    let gathered = rw c.in-Aggregate.is at has in
    rw c.in-Aggregate.is (groups_kept _ rows c.group_count.result (c.group_count.ensures _ _ rows gathered.gathers))
