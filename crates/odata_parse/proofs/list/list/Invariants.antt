use Rattle.std.proofs.Common.{length, map}
use Rattle.odata_parse.proofs.ListLemmas.{Midway}
use Rattle.odata_parse.proofs.list.list.Given as goal

abbrev pub invariant-loop-items : goal.invariant-loop-items
invariant-loop-items g l = Midway g.T.Item.reads l.separator l.fn.tokens l.tokens (map g.T.Item.tree l.items.items)

abbrev pub decreases-loop-items : goal.decreases-loop-items
decreases-loop-items g l = length l.tokens
