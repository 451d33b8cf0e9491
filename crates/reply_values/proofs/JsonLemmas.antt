-- The texts of values in JSON are the texts of their trees, as the kit's `json` prints their tokens.
use Rattle.std.proofs.Common.{◌≡◌, ℕ, ℤ, ◌<◌, ◌≤◌, ◌/◌, ◌%◌, true, false, List, [], ◌∷◌, ◌++◌, refl, ap, ap₂, arith}
use Rattle.std.specs.Prelude.{unsigned_abs}
use Rattle.std.specs.List.{AllByRecursion}
use Rattle.jiff_fmt.specs.Text.{pad2}
use Rattle.json.specs.Print.{escape, print_from}
use Rattle.json.proofs.Printed.Strings.{escape_byte_plain}
use Rattle.cell_types.specs.Value as cell
use Rattle.cell_types.specs.Value.{CellValue, null, integer, text, boolean, date}
use Rattle.reply_values.specs.Value.{day_text}
use Rattle.reply_values.specs.ReadBack.{FitsJson, IsJsonText}
use Rattle.reply_values.proofs.ByteLemmas.{all-day}
use Rattle.reply_values.proofs.NumberLemmas.{decimal_is_number, integer_is_number}

-- ---- dates

-- digits, hyphens and what stands between these
abbrev IsLow : ℕ → Type 0
IsLow b = (45 ≤ b) × (b ≤ 57)

escape_low : (bytes : List ℕ) → AllByRecursion IsLow bytes → escape bytes ≡ bytes
escape_low [] low = refl
escape_low (x ∷ bytes) low =
    ap₂ (λ a b. a ++ b) (escape_byte_plain x (λ e. omega (arith, low.0.0, e)) (λ e. omega (arith, low.0.1, e)) (omega (arith, low.0.0))) (escape_low bytes low.1)

pad2_low : (n : ℕ) → n < 100 → AllByRecursion IsLow (pad2 n)
pad2_low n h = ((omega arith, omega (arith, h)), ((omega arith, omega arith), tt))

day_low : (year : ℤ) (month day : ℕ) → unsigned_abs year < 10_000 → month < 100 → day < 100 → AllByRecursion IsLow (day_text year month day)
day_low year month day y m d =
    all-day IsLow year month day (omega arith, omega arith) (omega arith, omega arith) (pad2_low (unsigned_abs year / 100) (omega (arith, y))) (pad2_low (unsigned_abs year % 100) (omega arith))
    (pad2_low month m) (pad2_low day d)

pub is_value : (value : CellValue) → FitsJson value → IsJsonText value
unfolding print_from
is_value null fits = record { printed = λ ts. refl; numbers = tt; flat = omega arith }
is_value (integer number) fits = record { printed = λ ts. refl; numbers = integer_is_number number fits; flat = omega arith }
is_value (text bytes) fits = record { printed = λ ts. refl; numbers = tt; flat = omega arith }
is_value (boolean true) fits = record { printed = λ ts. refl; numbers = tt; flat = omega arith }
is_value (boolean false) fits = record { printed = λ ts. refl; numbers = tt; flat = omega arith }
is_value (date year month day) fits = record {
  printed = λ ts. ap (λ inside. (34 ∷ (inside ++ 34 ∷ [])) ++ print_from true ts) (escape_low (day_text year month day) (day_low year month day fits.0 fits.1 fits.2));
  numbers = tt;
  flat = omega arith;
}
is_value (cell.decimal millionths) fits = record { printed = λ ts. refl; numbers = decimal_is_number millionths fits; flat = omega arith }
