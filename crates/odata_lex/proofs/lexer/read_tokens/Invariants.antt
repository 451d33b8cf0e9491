use Rattle.std.proofs.Common.{length, ◌-◌}
use Rattle.odata_lex.proofs.Progress.{Progress}
use Rattle.odata_lex.proofs.lexer.read_tokens.Given as goal

abbrev pub invariant-loop-place : goal.invariant-loop-place
invariant-loop-place l = Progress l.bytes l.tokens.items l.place

abbrev pub decreases-loop-place : goal.decreases-loop-place
decreases-loop-place l = length l.bytes - l.place
