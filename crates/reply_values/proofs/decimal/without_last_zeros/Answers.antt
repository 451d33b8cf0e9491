use Rattle.std.proofs.Common.{arith}
use Rattle.reply_values.proofs.DecimalLemmas.{without-none, without-other, without-zero}
use Rattle.reply_values.proofs.decimal.without_last_zeros.Goals as goal
use Rattle.reply_values.proofs.decimal.without_last_zeros.Goals.{then-loop-len-test+else-digits-len-eq48, else-loop-len-test}

pub loop-len-preserved : goal.loop-len-preserved
loop-len-preserved c =
    let digits = c.args.digits.now in
    (omega arith, without-zero digits _ c.loop-len.len (omega arith) c.loop-len.invariant.0 c.if-digits-len-eq48.true c.loop-len.invariant.1)

pub returns : goal.returns
returns c =
    let digits = c.args.digits.now in
    elim c.loop-len-test.branch [
      | then-loop-len-test+else-digits-len-eq48 w ↦
          without-other digits _ c.loop-len.len (omega arith) c.loop-len.invariant.0 w.if-digits-len-eq48.false c.loop-len.invariant.1
      | else-loop-len-test w ↦ without-none digits _ c.loop-len.len (omega arith) c.loop-len.invariant.1
    ]
