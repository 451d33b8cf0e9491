use Rattle.std.proofs.Common.{◌∙◌}
use Rattle.block_eval.proofs.TruthLemmas.{numbers-among}
use Rattle.block_eval.proofs.truths.truths_among.Goals as goal

pub returns : goal.returns
returns c =
    numbers-among c.args.truths.now c.in_ok-found.found.items c.in_ok-numbers.numbers c.args.items.now c.as_slice.result.now
    c.in_ok-numbers.ensures (c.as_slice.ensures.value ∙ c.in_ok-items.ensures) c.in_ok-found.ensures
