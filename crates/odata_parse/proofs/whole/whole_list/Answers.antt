use Rattle.std.proofs.Common.{sym, ◌∙◌, []}
use Rattle.std.proofs.lemmas.Bool.{false≢true}
use Rattle.std.proofs.lemmas.Result.{err_from_is_err_and}
use Rattle.odata_parse.proofs.ParsedLemmas.{parsed_deep, parsed_tree, parsed_none}
use Rattle.odata_parse.proofs.whole.whole_list.Goals as goal

pub returns-then-is_too_deep : goal.returns-then-is_too_deep
returns-then-is_too_deep g c = parsed_deep _ _ _ _ (c.is_too_deep.ensures.0 c.if-is_too_deep.true)

pub returns-in_err-items : goal.returns-in_err-items
returns-in_err-items g c =
    let p = err_from_is_err_and c.from_residual.result c.from_residual.ensures.1 in
    rw (p.1, p.2) (parsed_none _ _ _ _ _ (λ deep. false≢true (sym c.if-is_too_deep.false ∙ c.is_too_deep.ensures.1 deep)) (λ x r. c.in_err-items.ensures.each x [] (rw (← c.new-rest.ensures) at r) tt))

pub returns-in_err-end : goal.returns-in_err-end
returns-in_err-end g c =
    let p = err_from_is_err_and c.from_residual-in_err-end.result c.from_residual-in_err-end.ensures.1 in
    rw (p.1, p.2) (parsed_none _ _ _ _ _ (λ deep. false≢true (sym c.if-is_too_deep.false ∙ c.is_too_deep.ensures.1 deep)) (λ x r. absurd (c.in_err-end.ensures.err (c.in_ok-items.ensures.each x [] (rw (← c.new-rest.ensures) at r) tt).1)))

pub returns : goal.returns
returns g c =
    parsed_tree _ _ _ _ _ (λ deep. false≢true (sym c.if-is_too_deep.false ∙ c.is_too_deep.ensures.1 deep)) (rw (c.in_ok-end.ensures.ok, c.new-rest.ensures) at c.in_ok-items.ensures.found)
