use Rattle.std.proofs.Common.{arith}
use Rattle.text_columns.proofs.ListLemmas.{kept-all, kept-more}
use Rattle.text_columns.proofs.places.write_fours.Goals as goal

pub loop-i-preserved : goal.loop-i-preserved
loop-i-preserved c = kept-more _ _ _ (omega arith) (omega arith) c.loop-i.invariant

pub returns : goal.returns
returns c = kept-all _ _ _ (omega arith) (omega arith) c.loop-i.invariant
