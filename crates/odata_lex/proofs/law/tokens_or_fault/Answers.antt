use Rattle.odata_lex.proofs.LexerLemmas.{tokens_or_fault, tokens_not_bad, tokens_not_many, bad_not_many}
use Rattle.odata_lex.proofs.law.tokens_or_fault.Goals as goal

pub returns : goal.returns
returns c = record { one = tokens_or_fault; tokens_not_bad = tokens_not_bad; tokens_not_many = tokens_not_many; bad_not_many = bad_not_many }
