-- Texts with their values, worked out by hand.
use Rattle.std.specs.Prelude.{◌≡◌, Some, None, true, false, Ok, codes, negsuc, pos}
use Rattle.cell_types.specs.Date.{date_of}
use Rattle.cell_types.specs.Decimal.{decimal_of}
use Rattle.cell_types.specs.Value.{date, decimal}
use Rattle.cell_types.specs.declared.datatype.DateForm.TheVariants.{YearMonthDay}
use Rattle.value_forms.specs.declared.date.DateOrder.TheVariants.{YearFirst, DayFirst, MonthFirst}
use Rattle.value_forms.specs.declared.number.Marks.{Marks}
use Rattle.value_forms.specs.Dates.{form_day}
use Rattle.value_forms.specs.Forms.{alone_made, timed_day}
use Rattle.value_forms.specs.Numbers.{marked_number}
use Rattle.value_forms.specs.Rounding.{is_finer, nearest_millionths}
use Rattle.value_forms.specs.Scale.{exponent_number, moved, percent_number}
use Rattle.value_forms.specs.Truths.{word_truth}
use Rattle.value_forms.specs.Units.{after_unit, before_unit}

-- a decimal comma and points between thousands, and the other way round
abbrev pub with_comma : Marks
with_comma = record { point = 44; group = 46 }

abbrev pub with_point : Marks
with_point = record { point = 46; group = 44 }

-- a decimal comma and spaces between thousands
abbrev pub with_spaces : Marks
with_spaces = record { point = 44; group = 32 }

pub record WorkedMarks : Type 0 where
  -- `1.234,50` is 1234.5
  pub comma : marked_number with_comma (codes "1.234,50") ≡ Some (codes "1234.50")
  pub comma_value : decimal_of (codes "1234.50") ≡ Ok (decimal (pos 1_234_500_000))
  pub negative : marked_number with_comma (codes "-0,5") ≡ Some (codes "-0.5")
  pub plain : marked_number with_comma (codes "1234") ≡ Some (codes "1234")
  pub point : marked_number with_point (codes "+1,234,567.25") ≡ Some (codes "1234567.25")
  pub spaces : marked_number with_spaces (codes "12 345") ≡ Some (codes "12345")
  -- points are between thousands, and nowhere else
  pub short_group : marked_number with_comma (codes "1.23,5") ≡ None
  pub long_group : marked_number with_comma (codes "1.2345") ≡ None
  pub late_group : marked_number with_comma (codes "1,234.5") ≡ None
  pub no_digit : marked_number with_comma (codes ",5") ≡ None
  pub version : marked_number with_comma (codes "1.2.3") ≡ None
  -- a hundredth of 12, of 7.5 and of 100
  pub percent_sign : percent_number with_comma (codes "12,5 %") ≡ Some (codes "0.125")
  pub no_percent_sign : percent_number with_comma (codes "12,5") ≡ None
  pub percent : moved 2 0 (codes "12") ≡ codes "0.12"
  pub fine_percent : moved 2 0 (codes "-7.5") ≡ codes "-0.075"
  pub whole_percent : moved 2 0 (codes "100") ≡ codes "1.00"
  -- 1.2 times ten to the fifth, and 3.5 times ten to the minus second
  pub exponent_sign : exponent_number with_point (codes "1.2e5") ≡ Some (codes "120000")
  pub small : exponent_number with_point (codes "3.5E-02") ≡ Some (codes "0.035")
  pub code : exponent_number with_point (codes "0E8") ≡ None
  pub exponent : moved 0 5 (codes "1.2") ≡ codes "120000"
  pub negative_exponent : moved 2 0 (codes "3.5") ≡ codes "0.035"
  -- a currency before a number, and after one
  pub before : after_unit (codes "$") (codes "$ 12") ≡ Some (codes "12")
  pub after : before_unit (codes "EUR") (codes "12 EUR") ≡ Some (codes "12")
  pub no_unit : before_unit (codes "EUR") (codes "12") ≡ None
  -- seven places are too fine, unless the last one is a zero
  pub fine : is_finer (codes "0.1234567") ≡ true
  pub six : is_finer (codes "0.1234560") ≡ false
  -- millionths: the nearest, and to the even one of two that are as near
  pub nearest : nearest_millionths (codes "1.2345678") ≡ pos 1_234_568
  pub carried : nearest_millionths (codes "9.9999996") ≡ pos 10_000_000
  pub nearest_negative : nearest_millionths (codes "-7.00000051") ≡ negsuc 7_000_000
  pub half_above : nearest_millionths (codes "0.0000015") ≡ pos 2
  pub half_below : nearest_millionths (codes "0.0000025") ≡ pos 2
  pub to_nothing : nearest_millionths (codes "-0.0000004") ≡ pos 0

pub record WorkedDates : Type 0 where
  -- `01/02/2024` is 1 February with the day first, and 2 January with the month first
  pub day_first : form_day (record { order = DayFirst; separator = 47; is_named = false }) (codes "01/02/2024") ≡ Some (codes "2024-02-01")
  pub day_value : date_of YearMonthDay (codes "2024-02-01") ≡ Ok (date (pos 2024) 2 1)
  pub month_first : form_day (record { order = MonthFirst; separator = 47; is_named = false }) (codes "01/02/2024") ≡ Some (codes "2024-01-02")
  pub month_value : date_of YearMonthDay (codes "2024-01-02") ≡ Ok (date (pos 2024) 1 2)
  pub dotted : form_day (record { order = DayFirst; separator = 46; is_named = false }) (codes "1.2.2024") ≡ Some (codes "2024-02-01")
  pub year_first : form_day (record { order = YearFirst; separator = 47; is_named = false }) (codes "2012/01/31") ≡ Some (codes "2012-01-31")
  pub named : form_day (record { order = MonthFirst; separator = 32; is_named = true }) (codes "Jan 1, 2000") ≡ Some (codes "2000-01-01")
  -- no day of the calendar, a year of two digits, a part too few
  pub no_day : form_day (record { order = DayFirst; separator = 46; is_named = false }) (codes "30.2.2024") ≡ None
  pub short_year : form_day (record { order = DayFirst; separator = 46; is_named = false }) (codes "1.2.24") ≡ None
  pub two_parts : form_day (record { order = DayFirst; separator = 46; is_named = false }) (codes "1.2024") ≡ None
  -- a day with a time of day, and one with midnight
  pub time : timed_day true (record { order = DayFirst; separator = 46; is_named = false }) (codes "01.02.2024 10:30")
      ≡ Some (record { text = codes "2024-02-01"; time = Some (codes "10:30"); difference = 0 })
  pub midnight : timed_day false (record { order = DayFirst; separator = 46; is_named = false }) (codes "01.02.2024 00:00:00")
      ≡ Some (alone_made (codes "2024-02-01"))
  pub no_midnight : timed_day false (record { order = DayFirst; separator = 46; is_named = false }) (codes "01.02.2024 00:01") ≡ None
  pub last_second : timed_day true (record { order = DayFirst; separator = 46; is_named = false }) (codes "01.02.2024 23:59:59.9")
      ≡ Some (record { text = codes "2024-02-01"; time = Some (codes "23:59:59.9"); difference = 0 })
  pub no_second : timed_day true (record { order = DayFirst; separator = 46; is_named = false }) (codes "01.02.2024 23:59:60") ≡ None
  pub no_hour : timed_day true (record { order = DayFirst; separator = 46; is_named = false }) (codes "01.02.2024 24:00") ≡ None

pub record WorkedTruths : Type 0 where
  pub of_true : word_truth (codes "ja") (codes "nein") (codes "ja") ≡ Some true
  pub of_false : word_truth (codes "ja") (codes "nein") (codes "nein") ≡ Some false
  pub other : word_truth (codes "ja") (codes "nein") (codes "Ja") ≡ None
