use Rattle.std.proofs.Common.{refl}
use Rattle.cell_types.specs.Date.{date_of}
use Rattle.value_forms.specs.Dates.{form_day, named_month}
use Rattle.value_forms.specs.Forms.{timed_day}
use Rattle.value_forms.specs.Times.{is_time}
use Rattle.value_forms.proofs.laws.worked_dates.Goals as goal

pub returns : goal.returns
unfolding date_of form_day is_time named_month timed_day
returns c = record {
  day_first = refl;
  day_value = refl;
  month_first = refl;
  month_value = refl;
  dotted = refl;
  year_first = refl;
  named = refl;
  no_day = refl;
  short_year = refl;
  two_parts = refl;
  time = refl;
  midnight = refl;
  no_midnight = refl;
  last_second = refl;
  no_second = refl;
  no_hour = refl;
}
