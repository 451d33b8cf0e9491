use Rattle.std.proofs.Common.{length, sym, ap, ◌∙◌}
use Rattle.frame_of_reference.specs.OffsetList.{offset_list}
use Rattle.block_summary.proofs.CellLemmas.{length-cells}
use Rattle.block_summary.proofs.integers.Integers.len.Goals as goal

pub returns : goal.returns
returns c = c.rows_of.ensures ∙ sym (length-cells c.self.inside.nulls.items c.self.inside.least (offset_list c.self.inside.offsets)) ∙ ap length c.self.view_is
