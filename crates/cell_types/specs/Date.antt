-- Dates (Model for Tabular Data and Metadata on the Web, section 6.4.4), of the years 1 to 9999 of the calendar.
use Rattle.std.specs.Prelude.{◌≡◌, ℕ, List, length, [], ◌∷◌, ◌++◌, ◌+◌, ◌-◌, ◌*◌, ◌/◌, ◌%◌, ◌<◌, ◌&&◌, Bool, true, ℤ, pos, fold, take, drop, codes, if◌then◌else◌, Result, Ok, Err}
use Rattle.std.specs.Int.{is_in_range}
use Rattle.std.specs.Str.{bytes_eq}
use Rattle.jiff_core.specs.Calendar.{days_in_month}
use Rattle.cell_types.specs.declared.fault.CellFault.{CellFault}
use Rattle.cell_types.specs.declared.fault.CellFault.TheVariants.{NotDate}
use Rattle.cell_types.specs.declared.datatype.DateForm.{DateForm}
use Rattle.cell_types.specs.declared.datatype.DateForm.TheVariants.{YearMonthDay, Compact, DayMonthYear, MonthDayYear, Dotted}
use Rattle.cell_types.specs.Value.{CellValue, date}

-- a number below 100 in two digits, and one below 10,000 in four
abbrev pub two_digits : ℕ → List ℕ
two_digits n = (48 + n / 10) ∷ (48 + n % 10) ∷ []

abbrev pub four_digits : ℕ → List ℕ
four_digits n = two_digits (n / 100) ++ two_digits (n % 100)

-- a form's parts in their order, with what stands between them
abbrev pub laid_out : DateForm → List ℕ → List ℕ → List ℕ → List ℕ
laid_out YearMonthDay y m d = y ++ codes "-" ++ m ++ codes "-" ++ d
laid_out Compact y m d = y ++ m ++ d
laid_out DayMonthYear y m d = d ++ codes "/" ++ m ++ codes "/" ++ y
laid_out MonthDayYear y m d = m ++ codes "/" ++ d ++ codes "/" ++ y
laid_out Dotted y m d = d ++ codes "." ++ m ++ codes "." ++ y

-- a text laid out so, of whatever four bytes of a year and two of a month and a day
abbrev pub HasParts : DateForm → List ℕ → List ℕ → List ℕ → List ℕ → Type 0
HasParts form bytes y m d = (length y ≡ 4) × (length m ≡ 2) × (length d ≡ 2) × (bytes ≡ laid_out form y m d)

abbrev pub HasNoParts : DateForm → List ℕ → Type 0
HasNoParts form bytes = (y m d : List ℕ) → ¬ (HasParts form bytes y m d)

-- the text of a date
abbrev pub date_text : DateForm → ℕ → ℕ → ℕ → List ℕ
date_text form y m d = laid_out form (four_digits y) (two_digits m) (two_digits d)

-- the text of a year, a month and a day, whether the calendar has them or not
abbrev pub HasDateNumbers : DateForm → List ℕ → ℕ → ℕ → ℕ → Type 0
HasDateNumbers form bytes y m d = (y < 10_000) × (m < 100) × (d < 100) × (bytes ≡ date_text form y m d)

abbrev pub HasNoNumbers : DateForm → List ℕ → Type 0
HasNoNumbers form bytes = (y m d : ℕ) → ¬ (HasDateNumbers form bytes y m d)

-- a day of the calendar
abbrev pub is_date : ℕ → ℕ → ℕ → Bool
is_date y m d = is_in_range 1 9999 y && is_in_range 1 12 m && is_in_range 1 (days_in_month (pos y) m) d

-- the text of a day of the calendar
abbrev pub IsDateText : DateForm → List ℕ → ℕ → ℕ → ℕ → Type 0
IsDateText form bytes y m d = (is_date y m d ≡ true) × (bytes ≡ date_text form y m d)

abbrev pub HasDate : DateForm → List ℕ → ℤ → ℕ → ℕ → Type 0
HasDate form bytes year month day = (y : ℕ) × (year ≡ pos y) × IsDateText form bytes y month day

abbrev pub HasNoDate : DateForm → List ℕ → Type 0
HasNoDate form bytes = (y m d : ℕ) → ¬ (IsDateText form bytes y m d)

-- where the parts of a form begin
abbrev pub year_place : DateForm → ℕ
year_place YearMonthDay = 0
year_place Compact = 0
year_place _ = 6

abbrev pub month_place : DateForm → ℕ
month_place YearMonthDay = 5
month_place Compact = 4
month_place MonthDayYear = 0
month_place _ = 3

abbrev pub day_place : DateForm → ℕ
day_place YearMonthDay = 8
day_place Compact = 6
day_place MonthDayYear = 3
day_place _ = 0

-- the number that some digits at a place write
abbrev pub digits_number : ℕ → ℕ → List ℕ → ℕ
digits_number place count bytes = fold (λ n digit. n * 10 + (digit - 48)) 0 (take count (drop place bytes))

-- the date of which this is the text
unfoldable pub date_of : DateForm → List ℕ → Result CellValue CellFault
date_of form bytes =
    let y = digits_number (year_place form) 4 bytes in
    let m = digits_number (month_place form) 2 bytes in
    let d = digits_number (day_place form) 2 bytes in
    if is_date y m d && bytes_eq bytes (date_text form y m d) then Ok (date (pos y) m d) else Err NotDate
