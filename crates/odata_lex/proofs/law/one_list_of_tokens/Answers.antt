use Rattle.odata_lex.proofs.LexerLemmas.{reading_of, one_reading_of}
use Rattle.odata_lex.proofs.law.one_list_of_tokens.Goals as goal

pub returns : goal.returns
returns c = record { one = reading_of; only = one_reading_of }
