use Rattle.std.proofs.Common.{arith}
use Rattle.text_columns.proofs.ContentLemmas.{halves-end, halves-more}
use Rattle.text_columns.proofs.content.copy_halves.Goals as goal

pub loop-read-preserved : goal.loop-read-preserved
loop-read-preserved c =
    halves-more _ _ _ _ _ _ _ c.loop-read.invariant (omega arith) (omega arith) (omega (arith, c.step_at-read.ensures.order.0)) c.step_at-read.ensures.order.1 c.step_at-read.ensures.step

pub returns-clause-copied : goal.returns-clause-copied
returns-clause-copied c = halves-end _ _ _ _ _ _ c.loop-read.invariant (omega arith)
