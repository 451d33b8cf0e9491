use Rattle.std.proofs.lemmas.Result.{err_from_is_err_and}
use Rattle.odata_parse.specs.Literal.{one_token}
use Rattle.odata_parse.proofs.LiteralLemmas.{IsLiteral-unique, ReadsLiteral-one, found_behind_minus}
use Rattle.odata_parse.proofs.literal.LiteralItem.read.Goals as goal

pub returns-in_err-literal_of-in_default-kind-clause-each : goal.returns-in_err-literal_of-in_default-kind-clause-each
returns-in_err-literal_of-in_default-kind-clause-each c = λ x after r h.
    let p = err_from_is_err_and c.from_residual.result c.from_residual.ensures.1 in
    rw (p.1, p.2) (c.in_err-literal_of-in_default-kind.ensures.none x (ReadsLiteral-one (rw (c.in-Some.ensures.some) at r) c.in_default-kind.not-Minus).0)

pub returns-in_ok-literal_of-in_default-kind-clause-found : goal.returns-in_ok-literal_of-in_default-kind-clause-found
returns-in_ok-literal_of-in_default-kind-clause-found c = rw (c.in-Some.ensures.some) (one_token c.in_ok-literal_of-in_default-kind.ensures.found)

pub returns-in_ok-literal_of-in_default-kind-clause-each : goal.returns-in_ok-literal_of-in_default-kind-clause-each
returns-in_ok-literal_of-in_default-kind-clause-each c = λ x after r h.
    let q = ReadsLiteral-one (rw (c.in-Some.ensures.some) at r) c.in_default-kind.not-Minus in
    (IsLiteral-unique _ _ _ c.in_ok-literal_of-in_default-kind.ensures.found q.0, q.1)

pub returns-in-Minus-clause-found : goal.returns-in-Minus-clause-found
returns-in-Minus-clause-found c =
    rw (c.in-Some.ensures.some) (found_behind_minus _ _ c.negative.result _ c.in-Minus.is c.negative.ensures.found)
