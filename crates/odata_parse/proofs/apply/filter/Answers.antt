use Rattle.std.proofs.Common.{◌∷◌, ap, ◌∙◌}
use Rattle.std.proofs.lemmas.Result.{err_from_is_err_and}
use Rattle.odata_parse.specs.Apply.{a_filter}
use Rattle.odata_parse.specs.Tree.{filter_by}
use Rattle.odata_parse.proofs.ApplyLemmas.{filter_parts}
use Rattle.odata_parse.proofs.PhraseLemmas.{close_ends}
use Rattle.odata_parse.proofs.PrimaryLemmas.{same_rest}
use Rattle.odata_parse.proofs.apply.filter.Goals as goal

pub returns-in_err-expect-clause-each : goal.returns-in_err-expect-clause-each
returns-in_err-expect-clause-each c = λ t x after k r.
    let l = filter_parts r k in absurd (c.in_err-expect.ensures.err l.opening l.mid l.begins l.opens)

pub returns-in_err-expr-clause-each : goal.returns-in_err-expr-clause-each
returns-in_err-expr-clause-each c = λ t x after k r.
    let p = err_from_is_err_and c.from_residual-in_err-expr.result c.from_residual-in_err-expr.ensures.1 in
    let l = filter_parts r k in
    let o = same_rest l.begins c.in_ok-expect.ensures.ok.0 in
    rw (p.1, p.2) (c.in_err-expr.ensures.each l.expr (l.closing ∷ after) (rw o at l.reads) (close_ends 8 l.closing after l.closes))

pub returns-in_err-expect-2-clause-each : goal.returns-in_err-expect-2-clause-each
returns-in_err-expect-2-clause-each c = λ t x after k r.
    let l = filter_parts r k in
    let o = same_rest l.begins c.in_ok-expect.ensures.ok.0 in
    let i = c.in_ok-expr.ensures.each l.expr (l.closing ∷ after) (rw o at l.reads) (close_ends 8 l.closing after l.closes) in
    absurd (c.in_err-expect-2.ensures.err l.closing after i.1 l.closes)

pub returns-clause-found : goal.returns-clause-found
returns-clause-found c = λ t k.
    let o = c.in_ok-expect.ensures.ok in
    let d = c.in_ok-expect-2.ensures.ok in
    rw (o.0) (a_filter k o.1 (rw (d.0) at c.in_ok-expr.ensures.found) d.1)

pub returns-clause-each : goal.returns-clause-each
returns-clause-each c = λ t x after k r.
    let l = filter_parts r k in
    let o = same_rest l.begins c.in_ok-expect.ensures.ok.0 in
    let i = c.in_ok-expr.ensures.each l.expr (l.closing ∷ after) (rw o at l.reads) (close_ends 8 l.closing after l.closes) in
    (ap filter_by i.0 ∙ l.is, same_rest c.in_ok-expect-2.ensures.ok.0 i.1)
