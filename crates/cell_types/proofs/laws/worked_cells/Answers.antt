use Rattle.std.proofs.Common.{refl}
use Rattle.cell_types.specs.Date.{date_of}
use Rattle.cell_types.specs.Decimal.{decimal_of}
use Rattle.cell_types.specs.Integer.{integer_of}
use Rattle.cell_types.specs.WhiteSpace.{normal_text, words}
use Rattle.cell_types.proofs.laws.worked_cells.Goals as goal

pub returns : goal.returns
unfolding date_of decimal_of integer_of normal_text words
returns c = record {
  integers = refl;
  booleans = refl;
  formatted = refl;
  dates = refl;
  compact = refl;
  day_first = refl;
  month_first = refl;
  dotted = refl;
  decimals = refl;
  texts = refl;
  white = refl;
  white_within = refl;
  nulls = refl;
  default_before_null = refl;
  null_default = refl;
  bad_default = refl;
  required = refl;
  required_text = refl;
  required_default = refl;
}
