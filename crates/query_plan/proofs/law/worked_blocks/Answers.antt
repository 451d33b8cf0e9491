use Rattle.std.proofs.Common.{refl}
use Rattle.cell_types.specs.Value.{value_cmp}
use Rattle.query_plan.proofs.WorkedLemmas.{every_block, first_blocks, no_block, one_block, second_ruled_out}
use Rattle.query_plan.proofs.law.worked_blocks.Goals as goal

pub returns : goal.returns
unfolding value_cmp
returns c = record {
  first = one_block;
  skipped = first_blocks;
  none = no_block;
  ordered = every_block;
  counted = every_block;
  faulty = every_block;
  filtered = second_ruled_out;
  ruled_out = refl;
  greater = refl;
  unknown = refl;
  divided = refl;
}
