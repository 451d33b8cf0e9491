use Rattle.odata_lex.proofs.LexerLemmas.{tokens_only, bad_only, many_only}
use Rattle.odata_lex.proofs.lexer.lex.Goals as goal

pub returns-clause-has_tokens : goal.returns-clause-has_tokens
returns-clause-has_tokens c = tokens_only _ _ c.read_tokens.result c.as_bytes.ensures.value c.read_tokens.ensures.fault

pub returns-clause-is_bad : goal.returns-clause-is_bad
returns-clause-is_bad c = bad_only (λ v. v.items) _ _ c.read_tokens.result c.as_bytes.ensures.value c.read_tokens.ensures.tokens c.read_tokens.ensures.fault

pub returns-clause-is_too_many : goal.returns-clause-is_too_many
returns-clause-is_too_many c = many_only (λ v. v.items) _ _ c.read_tokens.result c.as_bytes.ensures.value c.read_tokens.ensures.tokens c.read_tokens.ensures.fault
