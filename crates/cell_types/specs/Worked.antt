-- Texts of cells with what they are read as, worked out by hand (Model for Tabular Data and Metadata on the Web, section 6.4; Metadata Vocabulary for
-- Tabular Data, sections 5.6, 5.7 and 5.11).
use Rattle.std.specs.Prelude.{◌≡◌, ℕ, pos, neg_ℤ, true, false, List, [], ◌∷◌, ◌++◌, codes, map, Result, Ok, Err}
use Rattle.cell_types.specs.declared.datatype.BooleanForm.TheVariants.{Standard}
use Rattle.cell_types.specs.declared.datatype.DateForm.TheVariants.{YearMonthDay, Compact, DayMonthYear, MonthDayYear, Dotted}
use Rattle.cell_types.specs.declared.fault.CellFault.{CellFault}
use Rattle.cell_types.specs.declared.fault.CellFault.TheVariants.{NotInteger, OutOfRange, NotBoolean, NotDate, Missing, NotDecimal, TooFine}
use Rattle.cell_types.specs.Cell.{value_of}
use Rattle.cell_types.specs.Column.{ColumnOf}
use Rattle.cell_types.specs.Datatype as datatype
use Rattle.cell_types.specs.Datatype.{DatatypeOf, boolean_view}
use Rattle.cell_types.specs.Value.{CellValue, null, integer, text, boolean, date, decimal}

-- a text, and what a column reads it as
abbrev pub Case : Type 0
Case = List ℕ × Result CellValue CellFault

-- the column reads each text so
abbrev pub ReadsCells : ColumnOf → List Case → Type 0
ReadsCells column cases = map (λ case. value_of column case.0) cases ≡ map (λ case. case.1) cases

-- a column of which the metadata says the datatype alone: the empty text is null, there is no default, and none is required
abbrev pub plain : DatatypeOf → ColumnOf
plain type = record { name = codes "C"; titles = []; datatype = type; nulls = codes "" ∷ []; default = []; required = false }

-- the same with other texts of null, with a default, and where a value is required
abbrev pub with_null_text : List ℕ → ColumnOf → ColumnOf
with_null_text bytes column = record column { nulls = bytes ∷ column.nulls }

abbrev pub with_default : List ℕ → ColumnOf → ColumnOf
with_default bytes column = record column { default = bytes }

abbrev pub requiring : ColumnOf → ColumnOf
requiring column = record column { required = true }

-- a tab before a text and a line feed after it, as white space may be at its ends
abbrev pub between_white : List ℕ → List ℕ
between_white bytes = 9 ∷ bytes ++ 10 ∷ []

-- booleans without a format, and with the format `Y|N`
abbrev pub standard : DatatypeOf
standard = boolean_view Standard

abbrev pub yes_or_no : DatatypeOf
yes_or_no = datatype.boolean (codes "Y" ∷ []) (codes "N" ∷ [])

-- 29 February 2024 and 1 February 2024
abbrev pub day_of_a_leap_year : Result CellValue CellFault
day_of_a_leap_year = Ok (date (pos 2024) 2 29)

abbrev pub first_day : Result CellValue CellFault
first_day = Ok (date (pos 2024) 2 1)

pub record WorkedCells : Type 0 where
  -- digits after a sign or none, of 64 signed bits; a text that is no integer is that before it is out of range
  pub integers : ReadsCells (plain datatype.integer)
      ((codes "0", Ok (integer (pos 0)))
      ∷ (codes "-5", Ok (integer (neg_ℤ (pos 5))))
      ∷ (codes "+007", Ok (integer (pos 7)))
      ∷ (codes "9223372036854775807", Ok (integer (pos 9_223_372_036_854_775_807)))
      ∷ (codes "-9223372036854775808", Ok (integer (neg_ℤ (pos 9_223_372_036_854_775_808))))
      ∷ (codes "9223372036854775808", Err OutOfRange)
      ∷ (codes "-9223372036854775809", Err OutOfRange)
      ∷ (codes "99999999999999999999x", Err NotInteger)
      ∷ (codes "1.0", Err NotInteger)
      ∷ (codes "-", Err NotInteger)
      ∷ [])
  -- each text of a boolean, and texts that are near them
  pub booleans : ReadsCells (plain standard)
      ((codes "true", Ok (boolean true))
      ∷ (codes "1", Ok (boolean true))
      ∷ (codes "false", Ok (boolean false))
      ∷ (codes "0", Ok (boolean false))
      ∷ (codes "TRUE", Err NotBoolean)
      ∷ (codes "Y", Err NotBoolean)
      ∷ (codes "2", Err NotBoolean)
      ∷ [])
  -- with a format its two texts alone
  pub formatted : ReadsCells (plain yes_or_no)
      ((codes "Y", Ok (boolean true))
      ∷ (codes "N", Ok (boolean false))
      ∷ (codes "true", Err NotBoolean)
      ∷ (codes "0", Err NotBoolean)
      ∷ (codes "Y|N", Err NotBoolean)
      ∷ [])
  -- days of the calendar in the years 1 to 9999, each part with just its digits
  pub dates : ReadsCells (plain (datatype.date YearMonthDay))
      ((codes "2024-02-29", day_of_a_leap_year)
      ∷ (codes "0001-01-01", Ok (date (pos 1) 1 1))
      ∷ (codes "9999-12-31", Ok (date (pos 9999) 12 31))
      ∷ (codes "2023-02-29", Err NotDate)
      ∷ (codes "1900-02-29", Err NotDate)
      ∷ (codes "0000-01-01", Err NotDate)
      ∷ (codes "2024-13-01", Err NotDate)
      ∷ (codes "2024-04-31", Err NotDate)
      ∷ (codes "2024-2-29", Err NotDate)
      ∷ (codes "24-02-29", Err NotDate)
      ∷ (codes "20240229", Err NotDate)
      ∷ [])
  -- the other four forms: of `01/02/2024` the first part is the day in one of them, and the month in the other
  pub compact : ReadsCells (plain (datatype.date Compact)) ((codes "20240201", first_day) ∷ (codes "2024-02-01", Err NotDate) ∷ [])
  pub day_first : ReadsCells (plain (datatype.date DayMonthYear)) ((codes "01/02/2024", first_day) ∷ (codes "02/13/2024", Err NotDate) ∷ [])
  pub month_first : ReadsCells (plain (datatype.date MonthDayYear)) ((codes "02/01/2024", first_day) ∷ (codes "13/02/2024", Err NotDate) ∷ [])
  pub dotted : ReadsCells (plain (datatype.date Dotted)) ((codes "01.02.2024", first_day) ∷ (codes "1.2.2024", Err NotDate) ∷ [])
  -- Six decimal places of 64 signed bits. The first fault of a text is its form, then its places, then its size.
  pub decimals : ReadsCells (plain datatype.decimal)
      ((codes "2.5", Ok (decimal (pos 2_500_000)))
      ∷ (codes "-0.000001", Ok (decimal (neg_ℤ (pos 1))))
      ∷ (codes "+3", Ok (decimal (pos 3_000_000)))
      ∷ (codes ".5", Ok (decimal (pos 500_000)))
      ∷ (codes "5.", Ok (decimal (pos 5_000_000)))
      ∷ (codes "1.0000000", Ok (decimal (pos 1_000_000)))
      ∷ (codes "9223372036854.775807", Ok (decimal (pos 9_223_372_036_854_775_807)))
      ∷ (codes "-9223372036854.775808", Ok (decimal (neg_ℤ (pos 9_223_372_036_854_775_808))))
      ∷ (codes "9223372036854.775808", Err OutOfRange)
      ∷ (codes "1.0000001", Err TooFine)
      ∷ (codes "99999999999999.0000001", Err TooFine)
      ∷ (codes "x.0000001", Err NotDecimal)
      ∷ (codes "1,5", Err NotDecimal)
      ∷ (codes "1e3", Err NotDecimal)
      ∷ (codes ".", Err NotDecimal)
      ∷ [])
  -- a string is the text as it is in the file; the empty one is null
  pub texts : ReadsCells (plain datatype.text)
      ((codes "Oslo", Ok (text (codes "Oslo")))
      ∷ (between_white (codes " a  b "), Ok (text (between_white (codes " a  b "))))
      ∷ (codes " ", Ok (text (codes " ")))
      ∷ (codes "", Ok null)
      ∷ [])
  -- of the other datatypes white space at the ends is dropped, and what is left within is one space
  pub white : ReadsCells (plain datatype.integer)
      ((between_white (codes " 12 "), Ok (integer (pos 12))) ∷ (codes "1 2", Err NotInteger) ∷ (between_white [], Ok null) ∷ [])
  pub white_within : ReadsCells (with_null_text (codes "no data") (plain datatype.decimal)) ((codes " no  data ", Ok null) ∷ (codes "nodata", Err NotDecimal) ∷ [])
  -- a text of null is compared with a string as it is in the file
  pub nulls : ReadsCells (with_null_text (codes "NA") (plain datatype.text))
      ((codes "NA", Ok null) ∷ (codes "", Ok null) ∷ (codes " NA", Ok (text (codes " NA"))) ∷ (codes "na", Ok (text (codes "na"))) ∷ [])
  -- The default takes the place of an empty text before the texts of null are looked for; it takes the place of no other text.
  pub default_before_null : ReadsCells (with_default (codes "5") (plain datatype.integer)) ((codes "", Ok (integer (pos 5))) ∷ (codes " ", Ok (integer (pos 5))) ∷ (codes "7", Ok (integer (pos 7))) ∷ [])
  pub null_default : ReadsCells (with_default (codes "NA") (with_null_text (codes "NA") (plain datatype.integer))) ((codes "", Ok null) ∷ (codes "NA", Ok null) ∷ [])
  pub bad_default : ReadsCells (with_default (codes "x") (plain datatype.integer)) ((codes "", Err NotInteger) ∷ [])
  -- where a value is required, null alone is refused
  pub required : ReadsCells (requiring (with_null_text (codes "NA") (plain datatype.integer)))
      ((codes "1", Ok (integer (pos 1))) ∷ (codes "", Err Missing) ∷ (codes " NA ", Err Missing) ∷ (codes "n/a", Err NotInteger) ∷ [])
  pub required_text : ReadsCells (requiring (plain datatype.text)) ((codes "", Err Missing) ∷ (codes " ", Ok (text (codes " "))) ∷ [])
  pub required_default : ReadsCells (requiring (with_default (codes "5") (plain datatype.integer))) ((codes "", Ok (integer (pos 5))) ∷ [])
