use Rattle.std.proofs.Common.{◌≡◌, ◌<◌, false, arith}
use Rattle.value_forms.specs.Dates.{is_month, named_month}
use Rattle.value_forms.proofs.DateLemmas.{next_month}
use Rattle.value_forms.proofs.date.named_month.Goals as goal

pub loop-number-preserved : goal.loop-number-preserved
loop-number-preserved c =
    let below : c.loop-number.number < 13 = omega arith in
    let other : is_month c.loop-number.number c.args.text.now ≡ false = cc in
    next_month c.loop-number.number c.args.text.now (named_month c.args.text.now) below c.loop-number.invariant other
