use Rattle.column_blocks.proofs.RangeLemmas.{range-of_texts}
use Rattle.column_blocks.proofs.block_cells.text_range.Goals as goal

pub returns : goal.returns
returns c = range-of_texts _ _ _ _ _ _ c.column-column.ensures c.bounds-bounds.ensures c.bound_value-least.ensures c.bound_value-greatest.ensures c.in_ok-range.ensures
