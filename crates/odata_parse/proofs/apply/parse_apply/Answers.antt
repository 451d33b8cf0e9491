use Rattle.std.proofs.Common.{sym, ◌∙◌, inr}
use Rattle.std.proofs.lemmas.Bool.{false≢true}
use Rattle.odata_parse.proofs.ParsedLemmas.{parsed_deep, parsed_apply}
use Rattle.odata_parse.proofs.apply.parse_apply.Goals as goal

pub returns-then-has_slashes : goal.returns-then-has_slashes
returns-then-has_slashes c = parsed_deep _ _ _ _ (inr (c.has_slashes.ensures.0 c.if-has_slashes.true))

pub returns : goal.returns
returns c =
    parsed_apply _ _ _ _ _ (λ many. false≢true (sym c.if-has_slashes.false ∙ c.has_slashes.ensures.1 many)) c.whole_list.ensures
