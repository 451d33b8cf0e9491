use Rattle.std.proofs.Common.{refl}
use Rattle.std.proofs.lemmas.Bool.{false≢true}
use Rattle.std.proofs.lemmas.Result.{err_from_is_err_and}
use Rattle.odata_parse.specs.Apply.{of_count}
use Rattle.odata_parse.proofs.ApplyLemmas.{count_parts}
use Rattle.odata_parse.proofs.apply.AggregateItemItem.read.Goals as goal

pub returns-in_default-clause-each : goal.returns-in_default-clause-each
returns-in_default-clause-each c = λ x after r h.
    let n = c.in_default.ensures.none in
    c.in_ok-aggregated.ensures.each x after (rw (← n.0) at r) (rw (← n.0) at n.1)

pub returns-in_err-aggregated-clause-each : goal.returns-in_err-aggregated-clause-each
returns-in_err-aggregated-clause-each c = λ x after r h.
    let p = err_from_is_err_and c.from_residual.result c.from_residual.ensures.1 in
    let n = c.in_default.ensures.none in
    rw (p.1, p.2) (c.in_err-aggregated.ensures.each x after (rw (← n.0) at r) (rw (← n.0) at n.1))

pub returns-then-not-spells-clause-each : goal.returns-then-not-spells-clause-each
returns-then-not-spells-clause-each c = λ x after r h.
    let s = c.in-Some.ensures.some in
    let q = count_parts (rw (s.0) at r) s.1 in
    absurd (false≢true (c.if-not-spells.ensures.is.1 q.1))

pub returns-in_err-alias-clause-each : goal.returns-in_err-alias-clause-each
returns-in_err-alias-clause-each c = λ x after r h.
    let p = err_from_is_err_and c.from_residual-in_err-alias.result c.from_residual-in_err-alias.ensures.1 in
    let s = c.in-Some.ensures.some in
    let q = count_parts (rw (s.0) at r) s.1 in
    rw (p.1, p.2) (c.in_err-alias.ensures.each q.0 after q.2)

pub returns-clause-found : goal.returns-clause-found
returns-clause-found c =
    let s = c.in-Some.ensures.some in rw (s.0) (of_count s.1 (c.if-not-spells.ensures.is.0 refl) c.in_ok-alias.ensures.found)

pub returns-clause-each : goal.returns-clause-each
returns-clause-each c = λ x after r h.
    let s = c.in-Some.ensures.some in
    let q = count_parts (rw (s.0) at r) s.1 in
    let a = c.in_ok-alias.ensures.each q.0 after q.2 in
    (rw (a.0) q.3, a.1)
