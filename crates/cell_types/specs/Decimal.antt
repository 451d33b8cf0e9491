-- Decimals (Metadata Vocabulary for Tabular Data, section 5.11.2; XML Schema `decimal`), in whole millionths of 64 signed bits.
use Rattle.std.specs.Prelude.{ℕ, ℤ, pos, negsuc, neg_ℤ, suc, List, [], ◌∷◌, ◌++◌, ◌/◌, ◌%◌, Bool, ◌==◌, ◌&&◌, length, nat_lt, take, drop, codes, if◌then◌else◌, Result, Ok, Err}
use Rattle.std.specs.List.{after_first, before_first, list_all}
use Rattle.std.specs.Fmt.{decimal as whole_text}
use Rattle.std.specs.Str.{all_ascii_digits}
use Rattle.std.specs.Str.Parse.{digits_value, starts_with_minus, without_leading_sign}
use Rattle.cell_types.specs.declared.fault.CellFault.{CellFault}
use Rattle.cell_types.specs.declared.fault.CellFault.TheVariants.{NotDecimal, OutOfRange, TooFine}
use Rattle.cell_types.specs.Date.{four_digits, two_digits}
use Rattle.cell_types.specs.Integer.{fits_64_bits}
use Rattle.cell_types.specs.Value.{CellValue, decimal}

abbrev pub is_point : ℕ → Bool
is_point byte = byte == 46

abbrev pub is_zero : ℕ → Bool
is_zero byte = byte == 48

-- what stands between the sign and the first point, and what stands after that
abbrev pub whole_part : List ℕ → List ℕ
whole_part bytes = before_first is_point (without_leading_sign bytes)

abbrev pub fraction_part : List ℕ → List ℕ
fraction_part bytes = after_first is_point (without_leading_sign bytes)

-- one digit or more, and nothing else
abbrev pub are_digits : List ℕ → Bool
are_digits bytes = nat_lt 0 (length bytes) && all_ascii_digits bytes

-- an optional sign and one or more digits, with at most one point before, among or after them
abbrev pub is_decimal : List ℕ → Bool
is_decimal bytes = are_digits (whole_part bytes ++ fraction_part bytes)

-- after the sixth decimal place each digit is 0
abbrev pub is_in_millionths : List ℕ → Bool
is_in_millionths bytes = list_all is_zero (drop 6 (fraction_part bytes))

-- six decimal places: those of a fraction, and a 0 for each that it has not
abbrev pub six_places : List ℕ → List ℕ
six_places fraction = take 6 (fraction ++ codes "000000")

-- a number after a minus or after none
abbrev pub signed : Bool → ℕ → ℤ
signed is_negative number = if is_negative then neg_ℤ (pos number) else pos number

-- the number of millionths: what the digits write where the decimal places are six
abbrev pub millionths : List ℕ → ℤ
millionths bytes = signed (starts_with_minus bytes) (digits_value 10 (whole_part bytes ++ six_places (fraction_part bytes)))

-- a number of millionths, where it is one of 64 signed bits
abbrev pub value_of_millionths : ℤ → Result CellValue CellFault
value_of_millionths number = if fits_64_bits number then Ok (decimal number) else Err OutOfRange

-- a decimal, or the first that it is not: of the form, a whole number of millionths, of 64 signed bits
unfoldable pub decimal_of : List ℕ → Result CellValue CellFault
decimal_of bytes =
    if is_decimal bytes then (if is_in_millionths bytes then value_of_millionths (millionths bytes) else Err TooFine) else Err NotDecimal

-- the value that a number of millionths is, or a fault
abbrev pub decimal_reading : Result ℤ CellFault → Result CellValue CellFault
decimal_reading (Ok number) = Ok (decimal number)
decimal_reading (Err fault) = Err fault

-- digits as far as the last that is not 0
abbrev pub without_last_zeros : List ℕ → List ℕ
without_last_zeros [] = []
without_last_zeros (digit ∷ digits) = if list_all is_zero (digit ∷ digits) then [] else digit ∷ without_last_zeros digits

-- a number below 1,000,000 in six digits
abbrev pub six_digits : ℕ → List ℕ
six_digits number = two_digits (number / 10_000) ++ four_digits (number % 10_000)

-- a point and decimal places as far as the last that is not 0, or nothing where each is 0
abbrev pub fraction_text : ℕ → List ℕ
fraction_text number = if number == 0 then [] else codes "." ++ without_last_zeros (six_digits number)

-- the text of a number of millionths: the whole part, and the fraction
abbrev pub millionths_text : ℕ → List ℕ
millionths_text number = whole_text (number / 1_000_000) ++ fraction_text (number % 1_000_000)

-- with a minus where it is negative
unfoldable pub decimal_text : ℤ → List ℕ
decimal_text (pos number) = millionths_text number
decimal_text (negsuc number) = codes "-" ++ millionths_text (suc number)
