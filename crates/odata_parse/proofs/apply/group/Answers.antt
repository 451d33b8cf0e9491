use Rattle.std.proofs.Common.{◌∷◌, ◌∙◌}
use Rattle.std.proofs.lemmas.Result.{err_from_is_err_and}
use Rattle.odata_parse.specs.Apply.{a_grouping, a_grouping_with}
use Rattle.odata_parse.proofs.ApplyLemmas.{group_parts, tail_closed, tail_with}
use Rattle.odata_parse.proofs.PrimaryLemmas.{same_rest}
use Rattle.odata_parse.proofs.apply.group.Goals as goal

pub returns-in_err-expect-clause-each : goal.returns-in_err-expect-clause-each
returns-in_err-expect-clause-each c = λ t x after k r.
    let l = group_parts r k in absurd (c.in_err-expect.ensures.err l.opening l.mid l.begins l.opens)

pub returns-in_err-names-clause-each : goal.returns-in_err-names-clause-each
returns-in_err-names-clause-each c = λ t x after k r.
    let p = err_from_is_err_and c.from_residual-in_err-names.result c.from_residual-in_err-names.ensures.1 in
    let l = group_parts r k in
    let o = same_rest l.begins c.in_ok-expect.ensures.ok.0 in
    rw (p.1, p.2) (c.in_err-names.ensures.each l.names l.rest (rw o at l.reads))

pub returns-in_err-items-clause-each : goal.returns-in_err-items-clause-each
returns-in_err-items-clause-each c = λ t x after k r.
    let p = err_from_is_err_and c.from_residual-in_err-items.result c.from_residual-in_err-items.ensures.1 in
    let l = group_parts r k in
    let o = same_rest l.begins c.in_ok-expect.ensures.ok.0 in
    let n = c.in_ok-names.ensures.each l.names l.rest (rw o at l.reads) in
    let s = c.in-Some.ensures.some in
    let g = tail_with (rw (← n.1, s.0) at l.tail) s.1 in
    rw (p.1, p.2) (c.in_err-items.ensures.each g.0 (g.1 ∷ after) g.2)

pub returns-in_err-expect-2-clause-each : goal.returns-in_err-expect-2-clause-each
returns-in_err-expect-2-clause-each c = λ t x after k r.
    let l = group_parts r k in
    let o = same_rest l.begins c.in_ok-expect.ensures.ok.0 in
    let n = c.in_ok-names.ensures.each l.names l.rest (rw o at l.reads) in
    let s = c.in-Some.ensures.some in
    let g = tail_with (rw (← n.1, s.0) at l.tail) s.1 in
    let i = c.in_ok-items.ensures.each g.0 (g.1 ∷ after) g.2 in
    absurd (c.in_err-expect-2.ensures.err g.1 after i.1 g.3)

pub returns-in-Some-clause-found : goal.returns-in-Some-clause-found
returns-in-Some-clause-found c = λ t k.
    let o = c.in_ok-expect.ensures.ok in
    let s = c.in-Some.ensures.some in
    let d = c.in_ok-expect-2.ensures.ok in
    rw (o.0) (a_grouping_with k o.1 (rw (s.0) at c.in_ok-names.ensures.found) s.1 (rw (d.0) at c.in_ok-items.ensures.found) d.1)

pub returns-in-Some-clause-each : goal.returns-in-Some-clause-each
returns-in-Some-clause-each c = λ t x after k r.
    let l = group_parts r k in
    let o = same_rest l.begins c.in_ok-expect.ensures.ok.0 in
    let n = c.in_ok-names.ensures.each l.names l.rest (rw o at l.reads) in
    let s = c.in-Some.ensures.some in
    let g = tail_with (rw (← n.1, s.0) at l.tail) s.1 in
    let i = c.in_ok-items.ensures.each g.0 (g.1 ∷ after) g.2 in
    (rw (n.0, i.0) g.4, same_rest c.in_ok-expect-2.ensures.ok.0 i.1)

pub returns-in_err-expect-3-clause-each : goal.returns-in_err-expect-3-clause-each
returns-in_err-expect-3-clause-each c = λ t x after k r.
    let l = group_parts r k in
    let o = same_rest l.begins c.in_ok-expect.ensures.ok.0 in
    let n = c.in_ok-names.ensures.each l.names l.rest (rw o at l.reads) in
    let z = c.in_default.ensures.none in
    let g = tail_closed (rw (← n.1) at l.tail) z.1 in
    absurd (c.in_err-expect-3.ensures.err g.0 after (z.0 ∙ g.1) g.2)

pub returns-clause-found : goal.returns-clause-found
returns-clause-found c = λ t k.
    let o = c.in_ok-expect.ensures.ok in
    let z = c.in_default.ensures.none in
    let d = c.in_ok-expect-3.ensures.ok in
    rw (o.0) (a_grouping k o.1 (rw (← z.0, d.0) at c.in_ok-names.ensures.found) d.1)

pub returns-clause-each : goal.returns-clause-each
returns-clause-each c = λ t x after k r.
    let l = group_parts r k in
    let o = same_rest l.begins c.in_ok-expect.ensures.ok.0 in
    let n = c.in_ok-names.ensures.each l.names l.rest (rw o at l.reads) in
    let z = c.in_default.ensures.none in
    let g = tail_closed (rw (← n.1) at l.tail) z.1 in
    (rw (n.0) g.3, same_rest c.in_ok-expect-3.ensures.ok.0 (z.0 ∙ g.1))
