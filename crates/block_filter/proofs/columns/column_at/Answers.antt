use Rattle.std.proofs.Common.{option_copied}
use Rattle.block_filter.proofs.LaneLemmas.{packed_stand}
use Rattle.block_filter.proofs.columns.column_at.Goals as goal

pub returns-in-Some : goal.returns-in-Some
returns-in-Some c = rw c.in-Some.is at (packed_stand c.args.block.now c.args.col (option_copied c.packed.result) c.values_fit.ensures c.requires.col c.packed.ensures)
