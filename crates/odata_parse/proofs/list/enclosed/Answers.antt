use Rattle.std.proofs.Common.{◌∷◌}
use Rattle.std.proofs.lemmas.Result.{err_from_is_err_and}
use Rattle.odata_parse.specs.List.{enclosed}
use Rattle.odata_parse.proofs.ListLemmas.{enclosed_parts}
use Rattle.odata_parse.proofs.PrimaryLemmas.{same_rest}
use Rattle.odata_parse.proofs.list.enclosed.Goals as goal

pub returns-in_err-expect-clause-each : goal.returns-in_err-expect-clause-each
returns-in_err-expect-clause-each g c = λ x after r.
    let l = enclosed_parts r in absurd (c.in_err-expect.ensures.err l.opening l.mid l.begins l.opens)

pub returns-in_err-items-clause-each : goal.returns-in_err-items-clause-each
returns-in_err-items-clause-each g c = λ x after r.
    let p = err_from_is_err_and c.from_residual-in_err-items.result c.from_residual-in_err-items.ensures.1 in
    let l = enclosed_parts r in
    let o = same_rest l.begins c.in_ok-expect.ensures.ok.0 in
    rw (p.1, p.2) (c.in_err-items.ensures.each x (l.closing ∷ after) (rw o at l.reads) l.closes)

pub returns-in_err-expect-2-clause-each : goal.returns-in_err-expect-2-clause-each
returns-in_err-expect-2-clause-each g c = λ x after r.
    let l = enclosed_parts r in
    let o = same_rest l.begins c.in_ok-expect.ensures.ok.0 in
    let i = c.in_ok-items.ensures.each x (l.closing ∷ after) (rw o at l.reads) l.closes in
    absurd (c.in_err-expect-2.ensures.err l.closing after i.1 l.closes)

pub returns-clause-found : goal.returns-clause-found
returns-clause-found g c =
    let o = c.in_ok-expect.ensures.ok in
    let d = c.in_ok-expect-2.ensures.ok in
    rw (o.0) (enclosed o.1 (rw (d.0) at c.in_ok-items.ensures.found) d.1)

pub returns-clause-each : goal.returns-clause-each
returns-clause-each g c = λ x after r.
    let l = enclosed_parts r in
    let o = same_rest l.begins c.in_ok-expect.ensures.ok.0 in
    let i = c.in_ok-items.ensures.each x (l.closing ∷ after) (rw o at l.reads) l.closes in
    (i.0, same_rest c.in_ok-expect-2.ensures.ok.0 i.1)
