use Rattle.std.proofs.Common.{◌+◌, ◌*◌, ◌-◌, length}
use Rattle.odata_parse.specs.Tree.{expr_view}
use Rattle.odata_parse.proofs.PhraseLemmas.{Midway}
use Rattle.odata_parse.proofs.expression.+expression.Given as goal

abbrev pub decreases-phrase : goal.decreases-phrase
decreases-phrase l = 20 * length l.tokens.now + l.level + 3

abbrev pub decreases-signed : goal.decreases-signed
decreases-signed l = 20 * length l.tokens.now + 4

abbrev pub decreases-member : goal.decreases-member
decreases-member l = 20 * length l.tokens.now + 3

abbrev pub decreases-primary : goal.decreases-primary
decreases-primary l = 20 * length l.tokens.now + 2

abbrev pub decreases-word : goal.decreases-word
decreases-word l = 20 * length l.tokens.now + 17

abbrev pub decreases-call : goal.decreases-call
decreases-call l = 20 * length l.tokens.now + 16

abbrev pub invariant-phrase-loop-operator : goal.invariant-phrase-loop-operator
invariant-phrase-loop-operator l = Midway (l.level - 1) l.fn.tokens l.tokens (expr_view l.left)

abbrev pub decreases-phrase-loop-operator : goal.decreases-phrase-loop-operator
decreases-phrase-loop-operator l = length l.tokens
