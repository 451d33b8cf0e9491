use Rattle.std.proofs.Common.{◌^◌, ◌*◌, ◌+◌, ◌-◌, length, ap, ap₂, ◌∙◌, arith}
use Rattle.cell_types.proofs.ShortDecimals.{short-parts, short-value_is, value-short}
use Rattle.cell_types.proofs.decimal.short_number.Goals as goal

pub overflow_mul-result : goal.overflow_mul-result
overflow_mul-result c =
    let below = value-short c.args.whole.now 11 c.in_ok-ones.ensures.0 c.requires.whole in
    omega (arith, below, c.in_ok-ones.ensures.1)

pub filled-requires-clause-value : goal.filled-requires-clause-value
filled-requires-clause-value c =
    let below = value-short c.args.fraction.now 6 c.in_ok-value.ensures.0 c.requires.fraction in
    omega (arith, below, c.in_ok-value.ensures.1)

pub overflow_add-result : goal.overflow_add-result
overflow_add-result c =
    let below = value-short c.args.whole.now 11 c.in_ok-ones.ensures.0 c.requires.whole in
    omega (arith, below, c.in_ok-ones.ensures.1, c.filled.ensures.small)

pub returns-clause-parts : goal.returns-clause-parts
returns-clause-parts c = short-parts c.args.whole.now c.args.fraction.now c.in_ok-ones.ensures.0 c.in_ok-value.ensures.0

pub returns-clause-small : goal.returns-clause-small
returns-clause-small c =
    let below = value-short c.args.whole.now 11 c.in_ok-ones.ensures.0 c.requires.whole in
    omega (arith, below, c.in_ok-ones.ensures.1, c.filled.ensures.small)

pub returns-clause-value : goal.returns-clause-value
returns-clause-value c =
    let places = length c.args.fraction.now in
    ap₂ (λ ones value. ones * 1_000_000 + value) c.in_ok-ones.ensures.1 (c.filled.ensures.value ∙ ap (λ value. value * 10 ^ (6 - places)) c.in_ok-value.ensures.1)
    ∙ short-value_is c.args.whole.now c.args.fraction.now c.in_ok-value.ensures.0.0 c.requires.fraction
