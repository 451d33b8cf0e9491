-- The kinds of columns: what the cells of a column are, and the number or the text that stands for one. Each kind but that of texts is one of numbers.
use Rattle.std.specs.Prelude.{◌≡◌, ◌⊎◌, ℕ, ℤ, pos, negsuc, ◌+◌, ◌*◌, ◌/◌, ◌%◌, ◌+ℤ◌, ◌*ℤ◌, Bool, true, false, if◌then◌else◌, List, Option, None, Some, option_map, unsigned_abs}
use Rattle.std.specs.Int.{int_div_euclid, int_rem_euclid, w64}
use Rattle.std.specs.Int.RustNames.{FitsSigned}
use Rattle.std.specs.Ordering.{int_eq}
use Rattle.jiff_core.specs.Calendar.{IsDate}
use Rattle.cell_types.specs.Date.{is_date}
use Rattle.cell_types.specs.Datatype as datatype
use Rattle.cell_types.specs.Datatype.{DatatypeOf}
use Rattle.cell_types.specs.Value.{CellValue, null, integer, text, boolean, date, decimal}
use Rattle.cell_types.specs.declared.kind.ColumnKind.{ColumnKind}
use Rattle.cell_types.specs.declared.kind.ColumnKind.TheVariants.{Text, Number}
use Rattle.cell_types.specs.declared.kind.NumberKind.{NumberKind}
use Rattle.cell_types.specs.declared.kind.NumberKind.TheVariants.{Integer, Decimal, Boolean, Date}

-- the kind of a datatype's values
abbrev pub kind_of : DatatypeOf → ColumnKind
kind_of datatype.integer = Number Integer
kind_of datatype.text = Text
kind_of (datatype.boolean of_true of_false) = Number Boolean
kind_of (datatype.date form) = Number Date
kind_of datatype.decimal = Number Decimal

-- null, or a value of the kind
abbrev pub is_of_kind : ColumnKind → CellValue → Bool
is_of_kind kind null = true
is_of_kind (Number Integer) (integer z) = true
is_of_kind (Number Decimal) (decimal z) = true
is_of_kind (Number Boolean) (boolean b) = true
is_of_kind (Number Date) (date year month day) = true
is_of_kind Text (text t) = true
is_of_kind kind cell = false

-- the value, where it is of the kind; null in the place of any other
abbrev pub of_kind : ColumnKind → CellValue → CellValue
of_kind kind value = if is_of_kind kind value then value else null

-- ---- the number that stands for a cell

-- a day of the calendar
pub record DayOf : Type 0 where
  pub year : ℤ
  pub month : ℕ
  pub day : ℕ

-- a day as one number: of two days the later has the greater number
abbrev pub day_number : ℤ → ℕ → ℕ → ℤ
day_number year month day = (year *ℤ pos 512) +ℤ pos (32 * month + day)

abbrev pub number_of_day : DayOf → ℤ
number_of_day day = day_number day.year day.month day.day

-- 0 for false, and 1 for true
abbrev pub number_of_truth : Bool → ℤ
number_of_truth b = if b then pos 1 else pos 0

-- the number that stands for a cell: of a decimal its millionths; there is none for null, and for a text
abbrev pub number_of : CellValue → Option ℤ
number_of null = None
number_of (integer z) = Some z
number_of (text t) = None
number_of (boolean b) = Some (number_of_truth b)
number_of (date year month day) = Some (day_number year month day)
number_of (decimal z) = Some z

-- what a cell is, where it is of the kind
abbrev pub integer_in : CellValue → Option ℤ
integer_in (integer n) = Some n
integer_in _ = None

abbrev pub decimal_in : CellValue → Option ℤ
decimal_in (decimal n) = Some n
decimal_in _ = None

abbrev pub text_in : CellValue → Option (List ℕ)
text_in (text t) = Some t
text_in _ = None

abbrev pub boolean_in : CellValue → Option Bool
boolean_in (boolean b) = Some b
boolean_in _ = None

abbrev pub day_in : CellValue → Option DayOf
day_in (date y m d) = Some (record { year = y; month = m; day = d })
day_in _ = None

-- the number that stands for a cell, where it is of the kind
abbrev pub number_in : NumberKind → CellValue → Option ℤ
number_in Integer v = integer_in v
number_in Decimal v = decimal_in v
number_in Boolean v = option_map number_of_truth (boolean_in v)
number_in Date v = option_map number_of_day (day_in v)

-- ---- the cell that a number stands for

-- the place of a day in its year: 32 for each month, and the day of the month
abbrev pub place_in_year : ℤ → ℕ
place_in_year number = unsigned_abs (int_rem_euclid number (pos 512))

abbrev pub typed_cell : NumberKind → ℤ → CellValue
typed_cell Integer number = integer number
typed_cell Decimal number = decimal number
typed_cell Boolean number = boolean (int_eq number (pos 1))
typed_cell Date number = date (int_div_euclid number (pos 512)) (place_in_year number / 32) (place_in_year number % 32)

-- the day with a number, where the calendar has it in the years 1 to 9999: 512 for each year, 32 for each month, and the day of the month
abbrev pub day_cell : ℤ → Option CellValue
day_cell (pos n) = if is_date (n / 512) (n % 512 / 32) (n % 32) then Some (date (pos (n / 512)) (n % 512 / 32) (n % 32)) else None
day_cell (negsuc n) = None

-- the boolean with a number
abbrev pub truth_cell : ℤ → Option CellValue
truth_cell number = if int_eq number (pos 0) then Some (boolean false) else (if int_eq number (pos 1) then Some (boolean true) else None)

-- the value of the kind that a number stands for, where there is one; null for no number
abbrev pub number_cell : NumberKind → Option ℤ → Option CellValue
number_cell kind None = Some null
number_cell Integer (Some n) = Some (integer n)
number_cell Decimal (Some n) = Some (decimal n)
number_cell Boolean (Some n) = truth_cell n
number_cell Date (Some n) = day_cell n

abbrev pub cell_of : NumberKind → Option ℤ → CellValue
cell_of kind None = null
cell_of kind (Some number) = typed_cell kind number

-- a number that stands for a cell of the kind
abbrev pub IsNumberOf : NumberKind → ℤ → Type 0
IsNumberOf Integer number = Unit {0}
IsNumberOf Decimal number = Unit {0}
IsNumberOf Boolean number = (number ≡ pos 0) ⊎ (number ≡ pos 1)
IsNumberOf Date number = (year : ℤ) × (month : ℕ) × (day : ℕ) × IsDate year (pos month) (pos day) × (number ≡ day_number year month day)

-- the day that a cell is, where it is one, is of the calendar
abbrev pub HasRealDay : CellValue → Type 0
HasRealDay (date year month day) = IsDate year (pos month) (pos day)
HasRealDay cell = Unit {0}

-- a cell that a column of the kind may have
abbrev pub FitsKind : NumberKind → CellValue → Type 0
FitsKind kind null = Unit {0}
FitsKind Integer (integer z) = FitsSigned w64 z
FitsKind Decimal (decimal z) = FitsSigned w64 z
FitsKind Boolean (boolean b) = Unit {0}
FitsKind Date (date year month day) = IsDate year (pos month) (pos day)
FitsKind _ _ = ⊥
