-- The texts of values in CSV are fields of the grammar.
use Rattle.std.proofs.Common.{◌≡◌, ℕ, zero, suc, ◌≤◌, ◌/◌, ◌%◌, Bool, true, false, cond, eqb, ℤ, pos, negsuc, List, [], ◌∷◌, length, refl, arith, tests}
use Rattle.std.specs.Prelude.{IsTrue, not, ◌==◌, if◌then◌else◌, unsigned_abs}
use Rattle.std.proofs.lemmas.Bool.{or_parts}
use Rattle.std.specs.List.{list_any, AllByRecursion}
use Rattle.std.specs.Fmt.{digit_glyph, digits_onto, digits, decimal, signed_decimal}
use Rattle.csv_grammar.specs.Records.{unquoted, quoted, is_plain, IsField}
use Rattle.cell_types.specs.Decimal.{decimal_text, fraction_text, millionths_text, six_digits}
use Rattle.cell_types.specs.Value as cell
use Rattle.cell_types.specs.Value.{CellValue, null, integer, text, boolean, date}
use Rattle.jiff_fmt.specs.Text.{pad2}
use Rattle.reply_values.specs.Value.{bool_text, day_text}
use Rattle.reply_values.specs.Printed.{needs_more, needs_quotes}
use Rattle.reply_values.specs.ReadBack.{IsFieldOf}
use Rattle.reply_values.proofs.ByteLemmas.{all-append, all-day, all-trimmed}

-- ---- texts of numbers

-- bytes above the comma
abbrev AreAbove : List ℕ → Type 0
AreAbove bytes = AllByRecursion (λ b. 45 ≤ b) bytes

glyph_above : (d : ℕ) → 45 ≤ digit_glyph false d
glyph_above d = grind (arith, tests)

either_above : (t : Bool) (xs ys : List ℕ) → AreAbove xs → AreAbove ys → AreAbove (cond t xs ys)
either_above true xs ys p q = p
either_above false xs ys p q = q

onto_above : (k n : ℕ) (acc : List ℕ) → AreAbove acc → AreAbove (digits_onto k 10 false n acc)
onto_above zero n acc above = above
onto_above (suc k) n acc above =
    either_above (eqb (n / 10) 0) _ _ (glyph_above (n % 10), above) (onto_above k (n / 10) (digit_glyph false (n % 10) ∷ acc) (glyph_above (n % 10), above))

decimal_above : (n : ℕ) → AreAbove (decimal n)
unfolding digits
decimal_above n = onto_above 64 n [] tt

signed_above : (z : ℤ) → AreAbove (signed_decimal z)
signed_above (pos n) = decimal_above n
signed_above (negsuc n) = (omega arith, decimal_above (suc n))

pad2_above : (n : ℕ) → AreAbove (pad2 n)
pad2_above n = (omega arith, (omega arith, tt))

day_above : (year : ℤ) (month day : ℕ) → AreAbove (day_text year month day)
day_above year month day =
    all-day (λ b. 45 ≤ b) year month day (omega arith) (omega arith) (pad2_above (unsigned_abs year / 100)) (pad2_above (unsigned_abs year % 100)) (pad2_above month) (pad2_above day)

six_above : (n : ℕ) → AreAbove (six_digits n)
six_above n = (omega arith, (omega arith, (omega arith, (omega arith, (omega arith, (omega arith, tt))))))

fraction_above : (n : ℕ) → AreAbove (fraction_text n)
fraction_above n = either_above (eqb n 0) _ _ tt (omega arith, all-trimmed (λ b. 45 ≤ b) (six_digits n) (six_above n))

number_above : (n : ℕ) → AreAbove (millionths_text n)
number_above n = all-append (λ b. 45 ≤ b) (decimal (n / 1_000_000)) (fraction_text (n % 1_000_000)) (decimal_above (n / 1_000_000)) (fraction_above (n % 1_000_000))

millionths_above : (z : ℤ) → AreAbove (decimal_text z)
unfolding decimal_text
millionths_above (pos n) = number_above n
millionths_above (negsuc n) = (omega arith, number_above (suc n))

-- ---- bytes that need no double quotes

plain_above : (b : ℕ) → 45 ≤ b → IsTrue (is_plain b)
plain_above b above = grind (arith, tests)

plain-from_above : (bytes : List ℕ) → AreAbove bytes → AllByRecursion (λ b. IsTrue (is_plain b)) bytes
plain-from_above [] above = tt
plain-from_above (b ∷ bytes) above = (plain_above b above.0, plain-from_above bytes above.1)

plain_bool : (truth : Bool) → AllByRecursion (λ b. IsTrue (is_plain b)) (bool_text truth)
plain_bool true = (refl, (refl, (refl, (refl, tt))))
plain_bool false = (refl, (refl, (refl, (refl, (refl, tt)))))

-- a text that needs none
plain_text : (bytes : List ℕ) → list_any (needs_more false) bytes ≡ false → AllByRecursion (λ b. IsTrue (is_plain b)) bytes
plain_text [] none = tt
plain_text (b ∷ bytes) none =
    let parts = or_parts (not (is_plain b)) (list_any (needs_more false) bytes) none in
    (grind (arith, tests, parts.0), plain_text bytes parts.1)

-- ---- the field of a value

pub field_is : (value : CellValue) → IsFieldOf value
field_is null = record { valid = tt; printed = refl }
field_is (integer number) = record { valid = plain-from_above (signed_decimal number) (signed_above number); printed = refl }
field_is (text bytes) = record { valid = by (needs_quotes bytes) refl; printed = refl }
  where
    by : (t : Bool) → needs_quotes bytes ≡ t → IsField (if t then quoted bytes else unquoted bytes)
    by true e = tt
    by false e = plain_text bytes (or_parts (length bytes == 0) (list_any (needs_more false) bytes) e).1
field_is (boolean truth) = record { valid = plain_bool truth; printed = refl }
field_is (date year month day) = record { valid = plain-from_above (day_text year month day) (day_above year month day); printed = refl }
field_is (cell.decimal millionths) = record { valid = plain-from_above (decimal_text millionths) (millionths_above millionths); printed = refl }
