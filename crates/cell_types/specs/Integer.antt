-- Integers (Metadata Vocabulary for Tabular Data, section 5.11.2; XML Schema `integer`), in 64 signed bits.
use Rattle.std.specs.Prelude.{◌≤◌, ℕ, ℤ, pos, negsuc, List, Bool, ◌^◌, ◌&&◌, length, nat_lt, if◌then◌else◌, Result, Ok, Err}
use Rattle.std.specs.Str.{all_ascii_digits}
use Rattle.std.specs.Str.Parse.{IsNumeral, signed_digits_value, without_leading_sign}
use Rattle.cell_types.specs.declared.fault.CellFault.{CellFault}
use Rattle.cell_types.specs.declared.fault.CellFault.TheVariants.{NotInteger, OutOfRange}
use Rattle.cell_types.specs.Value.{CellValue, integer}

-- an optional sign, then one or more digits
abbrev pub is_integer : List ℕ → Bool
is_integer bytes = let digits = without_leading_sign bytes in nat_lt 0 (length digits) && all_ascii_digits digits

-- from -2^63, which is `negsuc (2 ^ 63 - 1)`, to 2^63 - 1
abbrev pub fits_64_bits : ℤ → Bool
fits_64_bits (pos n) = nat_lt n (2 ^ 63)
fits_64_bits (negsuc n) = nat_lt n (2 ^ 63)

-- the number that the digits say, with its sign
unfoldable pub integer_of : List ℕ → Result CellValue CellFault
integer_of bytes = let number = signed_digits_value 10 bytes in
    if is_integer bytes then (if fits_64_bits number then Ok (integer number) else Err OutOfRange) else Err NotInteger

-- an optional sign, then 1 to 18 digits
abbrev pub IsShortInteger : List ℕ → Type 0
IsShortInteger bytes = IsNumeral 10 (without_leading_sign bytes) × (length (without_leading_sign bytes) ≤ 18)
