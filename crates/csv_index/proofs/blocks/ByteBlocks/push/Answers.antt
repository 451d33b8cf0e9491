-- The block begins a group if all groups before it are whole.
use Rattle.std.proofs.Common.{arith}
use Rattle.csv_index.proofs.GroupLemmas.{ranked_group, ranked_more}
use Rattle.csv_index.proofs.blocks.ByteBlocks.push.Goals.{then-len-eq0, else-len-eq0}
use Rattle.csv_index.proofs.blocks.ByteBlocks.push.Goals as goal

pub returns-clause-ranked : goal.returns-clause-ranked
returns-clause-ranked c = rw c.push_reserved-2.ensures.items (elim c.if-len-eq0.branch [
  | then-len-eq0 w ↦ rw (w.self-is, w.push_reserved.ensures.items)
      (ranked_group c.args.self.now.masks.items c.args.self.now.before.items c.args.mask c.args.before c.requires.ranked (omega (arith, w.if-len-eq0.true, c.len.ensures)) c.requires.before)
  | else-len-eq0 w ↦ rw w.self-is
      (ranked_more c.args.self.now.masks.items c.args.self.now.before.items c.args.mask c.requires.ranked (omega (arith, w.if-len-eq0.false, c.len.ensures)))
])
