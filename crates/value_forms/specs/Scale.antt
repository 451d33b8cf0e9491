-- Numbers whose point is moved: those with a percent sign, and those with an exponent of ten.
use Rattle.std.specs.Prelude.{ℕ, zero, suc, ◌+◌, ◌-◌, ◌==◌, ◌||◌, Bool, List, [], ◌∷◌, ◌++◌, length, take, drop, codes, if◌then◌else◌, nat_lt, Option, Some, None, option_map}
use Rattle.std.specs.Char.{is_ascii_whitespace}
use Rattle.std.specs.List.{after_first, before_first, list_any, position_or_len, prefix_len, suffix_len}
use Rattle.std.specs.Option.{option_and_then}
use Rattle.std.specs.Str.Parse.{without_leading_sign}
use Rattle.cell_types.specs.Decimal.{is_point}
use Rattle.value_forms.specs.declared.number.Marks.{Marks}
use Rattle.value_forms.specs.Dates.{short_number}
use Rattle.value_forms.specs.Numbers.{before_end, marked_number, places_text, sign_text}

-- that many zeros
abbrev pub zeros : ℕ → List ℕ
zeros zero = []
zeros (suc count) = 48 ∷ zeros count

-- digits without the zeros before them
abbrev pub without_first_zeros : List ℕ → List ℕ
without_first_zeros [] = []
without_first_zeros (digit ∷ digits) = if digit == 48 then without_first_zeros digits else digit ∷ digits

-- the digits before a point: at least one
abbrev pub or_zero : List ℕ → List ℕ
or_zero [] = codes "0"
or_zero (digit ∷ digits) = digit ∷ digits

abbrev pub whole_digits : List ℕ → List ℕ
whole_digits digits = or_zero (without_first_zeros digits)

-- the digits of a number before its point, and those after it
abbrev pub whole_digits_of : List ℕ → List ℕ
whole_digits_of number = before_first is_point (without_leading_sign number)

abbrev pub places_after : List ℕ → List ℕ
places_after number = after_first is_point (without_leading_sign number)

-- digits before and after a point, after `front` zeros, with zeros at the end so that `back` digits are after the point
abbrev pub spread : ℕ → ℕ → List ℕ → List ℕ → List ℕ
spread front back whole fraction = zeros front ++ whole ++ fraction ++ zeros (back - length fraction)

-- where the point is among these, when it is moved by `back` digits to the right
abbrev pub point_with : ℕ → List ℕ → ℕ
point_with back number = length (whole_digits_of number) + back

-- a number that is divided by ten `front` times and multiplied by ten `back` times
unfoldable pub moved : ℕ → ℕ → List ℕ → List ℕ
moved front back number =
    let digits = spread front back (whole_digits_of number) (places_after number) in
    let point = point_with back number in
    sign_text number ++ whole_digits (take point digits) ++ places_text (drop point digits)

-- a text without the white space before it, or after it
abbrev pub trimmed_start : List ℕ → List ℕ
trimmed_start text = drop (prefix_len is_ascii_whitespace text) text

abbrev pub trimmed_end : List ℕ → List ℕ
trimmed_end text = take (length text - suffix_len is_ascii_whitespace text) text

-- the hundredth part of the number before a percent sign
unfoldable pub percent_number : Marks → List ℕ → Option (List ℕ)
percent_number marks text =
    option_and_then (λ front. option_map (moved 2 0) (marked_number marks (trimmed_end front))) (before_end 37 text)

-- an exponent of ten comes after an `e`
abbrev pub is_letter : ℕ → Bool
is_letter byte = byte == 101 || byte == 69

abbrev pub letter_place : List ℕ → ℕ
letter_place text = position_or_len is_letter text

-- by how many digits an exponent moves the point: at most 30
abbrev pub few : List ℕ → Option ℕ
few digits = option_and_then (λ number. if nat_lt 30 number then None else Some number) (short_number digits)

abbrev pub to_left : ℕ → ℕ × ℕ
to_left count = (count, 0)

abbrev pub to_right : ℕ → ℕ × ℕ
to_right count = (0, count)

-- by how many digits an exponent moves the point to the left, and to the right; one without a sign is none if its number has no point, so that a code such as `0E8` is none
abbrev pub exponent_moves : Bool → List ℕ → Option (ℕ × ℕ)
exponent_moves has_point [] = None
exponent_moves has_point (sign ∷ digits) =
    if sign == 45 then option_map to_left (few digits) else (if sign == 43 then option_map to_right (few digits)
    else (if has_point then option_map to_right (few (sign ∷ digits)) else None))

-- a number whose point is moved
abbrev pub moved_number : Option (ℕ × ℕ) → Option (List ℕ) → Option (List ℕ)
moved_number None number = None
moved_number (Some moves) number = option_map (moved moves.0 moves.1) number

-- the value of a number with an exponent of ten
unfoldable pub exponent_number : Marks → List ℕ → Option (List ℕ)
exponent_number marks text =
    let mantissa = before_first is_letter text in
    let exponent = after_first is_letter text in
    if nat_lt (letter_place text) (length text)
    then moved_number (exponent_moves (list_any (λ byte. byte == marks.point) mantissa) exponent) (marked_number marks mantissa) else None
