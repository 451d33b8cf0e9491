-- Decimals that are rounded.
use Rattle.std.specs.Prelude.{ℕ, ℤ, ◌+◌, ◌-◌, ◌*◌, ◌/◌, ◌%◌, ◌^◌, ◌==◌, ◌&&◌, Bool, not, List, ◌++◌, length, drop, if◌then◌else◌, nat_le, nat_lt}
use Rattle.std.specs.Char.{is_ascii_digit}
use Rattle.std.specs.List.{list_all}
use Rattle.std.specs.Str.Parse.{digits_value, starts_with_minus}
use Rattle.cell_types.specs.Decimal.{decimal_text, signed}
use Rattle.value_forms.specs.Scale.{places_after, whole_digits_of}

abbrev pub are_zeros : List ℕ → Bool
are_zeros digits = list_all (λ digit. digit == 48) digits

-- the digits before the point and those after it: more than six after it that are not all zeros, and at most twelve before it
abbrev pub is_fine : List ℕ → List ℕ → Bool
is_fine whole places =
    nat_lt 6 (length places) && list_all is_ascii_digit places && list_all is_ascii_digit whole && nat_le (length whole) 12
    && not (are_zeros (drop 6 places))

-- a decimal with more than six places
unfoldable pub is_finer : List ℕ → Bool
is_finer number = is_fine (whole_digits_of number) (places_after number)

-- the whole number nearest to a number of parts of one, and of two that are as near the even one (ISO 80000-1, annex B, rule A)
unfoldable pub nearest_even : ℕ → ℕ → ℕ
nearest_even parts one =
    let below = parts / one in
    let rest = 2 * (parts % one) in
    if nat_lt rest one then below else if nat_lt one rest then below + 1 else below + below % 2

-- the number of millionths nearest to a decimal
abbrev pub nearest_millionths : List ℕ → ℤ
nearest_millionths number =
    let places = places_after number in
    signed (starts_with_minus number) (nearest_even (digits_value 10 (whole_digits_of number ++ places)) (10 ^ (length places - 6)))

-- a decimal in at most six places
unfoldable pub in_six_places : List ℕ → List ℕ
in_six_places number = decimal_text (nearest_millionths number)
