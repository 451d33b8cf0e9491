use Rattle.std.proofs.Common.{refl}
use Rattle.cell_types.specs.Integer.{integer_of}
use Rattle.cell_types.specs.WhiteSpace.{normal_text, words}
use Rattle.file_cells.proofs.laws.worked_rows.Goals as goal

pub returns : goal.returns
unfolding integer_of normal_text words
returns c = record {
  names = refl;
  titles = refl;
  others = refl;
  widths = refl;
  rows = refl;
  by_rows = refl;
  by_columns = refl;
  header_in_quotes = refl;
  later_rows = refl;
}
