use Rattle.block_eval.proofs.NumberLemmas.{numbers-give}
use Rattle.block_eval.proofs.numbers.numbers_at.Goals as goal

pub returns : goal.returns
returns c =
    let columns = c.args.columns.now in
    let wanted = c.args.wanted.now in
    let made = c.in_ok-values.field-0 in
    numbers-give columns c.args.kind c.args.place wanted made c.in_ok-values.ensures
