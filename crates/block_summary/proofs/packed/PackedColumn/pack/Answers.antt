use Rattle.std.proofs.Common.{sym, subst}
use Rattle.block_summary.specs.Types.{AllNumbersOf}
use Rattle.block_summary.proofs.TypeLemmas.{all-numbers}
use Rattle.block_summary.proofs.packed.PackedColumn.pack.Goals as goal

pub invariant_of-result : goal.invariant_of-result
invariant_of-result c =
    subst (AllNumbersOf c.args.kind) (sym c.in_ok-numbers.ensures) (all-numbers c.args.kind c.args.nulls.now c.args.values.now c.requires.numbers)
