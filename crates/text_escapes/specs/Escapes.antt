-- Texts of others in messages: each control character is written as `\u` and its code in four hexadecimal digits, of which the letters are lower
-- case; nothing else is changed.
use Rattle.std.specs.Prelude.{ℕ, ◌/◌, ◌%◌, Bool, ◌||◌, List, [], ◌∷◌, if◌then◌else◌, chars, encode_utf8_all}
use Rattle.std.specs.Char.{digit_char}
use Rattle.std.specs.Int.{is_in_range}
use Rattle.std.specs.List.{flat_map}

abbrev pub backslash : ℕ
backslash = 92

-- a control character: U+0000 to U+001F, and U+007F to U+009F
abbrev pub is_control : ℕ → Bool
is_control c = is_in_range 0 0x1F c || is_in_range 0x7F 0x9F c

-- the code of a character in four hexadecimal digits
abbrev pub four_hex_digits : ℕ → List ℕ
four_hex_digits c = digit_char (c / 4096 % 16) ∷ digit_char (c / 256 % 16) ∷ digit_char (c / 16 % 16) ∷ digit_char (c % 16) ∷ []

-- what is written for a character: `\u` and its code, or itself
abbrev pub written : ℕ → List ℕ
written c = if is_control c then backslash ∷ 117 ∷ four_hex_digits c else c ∷ []

-- a text as it stands in a message
unfoldable pub escaped : List ℕ → List ℕ
escaped text = encode_utf8_all (flat_map written (chars text))
