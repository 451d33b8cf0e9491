use Rattle.std.proofs.Common.{map, ap, ◌∙◌}
use Rattle.block_summary.specs.Ranges.{is_null}
use Rattle.block_summary.proofs.RangeLemmas.{cells-null}
use Rattle.block_summary.proofs.packed.PackedColumn.unpack_nulls.Goals as goal

pub returns : goal.returns
returns c = c.unpack_nulls.ensures ∙ cells-null c.numbers_stand_for_cells.ensures c.self.inside.kind c.self.inside.numbers ∙ ap (map is_null) c.self.view_is
