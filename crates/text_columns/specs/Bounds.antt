-- The least and the greatest text of a block.
use Rattle.std.specs.Prelude.{List, option_map, slice_index_or}
use Rattle.block_summary.specs.Ranges.{RangeOf, IsRangeOf}
use Rattle.cell_types.specs.Value.{CellValue, null, text}
use Rattle.text_columns.specs.declared.bounds.RowText.{RowText}
use Rattle.text_columns.specs.declared.bounds.TextBounds.{TextBounds}

-- the cell of the text of a row
abbrev pub text_in_row : RowText → CellValue
text_in_row it = text it.text.now

-- the range whose bounds are the cells of these rows
abbrev pub range_at : List CellValue → TextBounds → RangeOf
range_at cells bounds = record {
  least = option_map (λ row. slice_index_or cells row null) bounds.least;
  greatest = option_map (λ row. slice_index_or cells row null) bounds.greatest;
  null_count = bounds.null_count;
}

-- the cells of these rows are the least and the greatest of the cells, and this is how many are null
abbrev pub AreTextBounds : List CellValue → TextBounds → Type 0
AreTextBounds cells bounds = IsRangeOf (range_at cells bounds) cells
