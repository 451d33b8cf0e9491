use Rattle.std.proofs.Common.{refl}
use Rattle.cell_types.specs.Date.{date_text}
use Rattle.cell_types.proofs.DateLemmas.{IsDate-is_date, date_of-only, date_of-text, is_date-IsDate}
use Rattle.cell_types.proofs.GivenLemmas.{column-day}
use Rattle.cell_types.proofs.laws.dates_read_back.Goals as goal

pub returns : goal.returns
returns c = record {
  back = λ form y m d is. date_of-text form (date_text form y m d) y m d (is, refl);
  only = date_of-only;
  calendar = λ y m d. (IsDate-is_date y m d, λ h. is_date-IsDate y m d h.0 h.1);
  columns = column-day;
}
