-- Numbers with marks of their own for the decimal point and between thousands, and their texts with a point and no marks (Metadata Vocabulary for Tabular Data, section
-- 5.11.2: `decimalChar` and `groupChar`).
use Rattle.std.specs.Prelude.{ℕ, ◌%◌, ◌-◌, Bool, true, false, ◌==◌, ◌&&◌, ◌||◌, List, [], ◌∷◌, ◌++◌, length, codes, filter, if◌then◌else◌, nat_eq, take, Option, Some, None}
use Rattle.std.specs.Char.{is_ascii_digit}
use Rattle.std.specs.List.{after_first, before_first, ends_with, list_all}
use Rattle.std.specs.Str.Parse.{starts_with_minus, without_leading_sign}
use Rattle.value_forms.specs.declared.number.Marks.{Marks}

-- what is before a byte at the end of a text
abbrev pub before_end : ℕ → List ℕ → Option (List ℕ)
before_end byte text = if ends_with nat_eq text (byte ∷ []) then Some (take (length text - 1) text) else None

-- the sign of a number: a plus is left out
abbrev pub sign_text : List ℕ → List ℕ
sign_text text = if starts_with_minus text then codes "-" else []

-- a point and the decimal places, or nothing
abbrev pub places_text : List ℕ → List ℕ
places_text [] = []
places_text (digit ∷ digits) = codes "." ++ digit ∷ digits

-- each fourth byte from the right is the mark, and each other one a digit
abbrev pub is_grouped : ℕ → List ℕ → Bool
is_grouped group [] = true
is_grouped group (byte ∷ bytes) =
    (if length (byte ∷ bytes) % 4 == 0 then byte == group else is_ascii_digit byte) && is_grouped group bytes

-- digits, a mark between thousands or no mark
abbrev pub is_whole : ℕ → List ℕ → Bool
is_whole group [] = false
is_whole group (first ∷ rest) = is_ascii_digit first && (list_all is_ascii_digit (first ∷ rest) || is_grouped group (first ∷ rest))

-- a sign and digits with these marks, as a text with a point and no marks between thousands
abbrev pub marked_number : Marks → List ℕ → Option (List ℕ)
marked_number marks text =
    let whole = before_first (λ byte. byte == marks.point) (without_leading_sign text) in
    let fraction = after_first (λ byte. byte == marks.point) (without_leading_sign text) in
    if is_whole marks.group whole && list_all is_ascii_digit fraction
    then Some (sign_text text ++ filter is_ascii_digit whole ++ places_text fraction) else None
