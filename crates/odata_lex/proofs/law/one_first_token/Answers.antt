use Rattle.odata_lex.proofs.LexerLemmas.{one_first_token}
use Rattle.odata_lex.proofs.law.one_first_token.Goals as goal

pub returns : goal.returns
returns c = λ text kind other front after more rest begins again.
    let same = one_first_token text kind other front after more rest begins again in (same.same_kind, same.same_front, same.same_after)
