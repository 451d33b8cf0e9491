-- Numbers of bytes that texts do not pass.
use Rattle.std.specs.Prelude.{FitsSigned}
use Rattle.std.proofs.Common.{◌≡◌, ℕ, suc, ◌+◌, ◌*◌, ◌/◌, ◌%◌, ◌^◌, ◌<◌, ◌≤◌, ℤ, pos, negsuc, Bool, true, false, cond, eqb, nat_lt, List, [], ◌∷◌, length, length-append, arith}
use Rattle.std.specs.Int.{w64}
use Rattle.std.specs.Fmt.{decimal, signed_decimal}
use Rattle.std.specs.Ordering.{int_eq}
use Rattle.std.specs.List.{flat_map}
use Rattle.std.proofs.lemmas.Fmt.{length-decimal-le_wide}
use Rattle.std.proofs.lemmas.Int.{ints}
use Rattle.csv_grammar.specs.Records.{doubled, print_field, quoted, unquoted}
use Rattle.json.specs.Print.{escape_byte, escape_letter}
use Rattle.reply_values.specs.Printed.{json_text, needs_quotes, printed_value, text_field}
use Rattle.reply_values.specs.Size.{told}
use Rattle.cell_types.specs.Decimal.{decimal_text, fraction_text, millionths_text}
use Rattle.cell_types.specs.Kind.{typed_cell}
use Rattle.cell_types.specs.Value.{boolean, date}
use Rattle.cell_types.specs.declared.kind.NumberKind.{NumberKind}
use Rattle.cell_types.specs.declared.kind.NumberKind.TheVariants.{Integer, Decimal, Boolean, Date}
use Rattle.reply_values.proofs.DigitLemmas.{short_fraction, short_number}

six : (t : Bool) (xs ys : List ℕ) → length xs ≤ 6 → length ys ≤ 6 → length (cond t xs ys) ≤ 6
six true xs ys a b = a
six false xs ys a b = b

escaped_few : (b : ℕ) → length (escape_byte b) ≤ 6
unfolding escape_byte
escaped_few b = six (nat_lt 0 (escape_letter b)) _ _ (omega arith) (six (nat_lt b 32) _ _ (omega arith) (omega arith))

text_few : (text : List ℕ) → length (flat_map escape_byte text) ≤ 6 * length text
text_few [] = omega arith
text_few (b ∷ text) = omega (arith, length-append (escape_byte b) (flat_map escape_byte text), escaped_few b, text_few text)

pub text_fits : (text : List ℕ) (most_of_it room : ℕ) → most_of_it ≡ told (length text * 6) → room ≡ told (most_of_it + 2) → told (length (json_text text)) ≤ room
text_fits text most_of_it room product sum = omega (arith, text_few text, length-append (flat_map escape_byte text) (34 ∷ []), product, sum)

doubled_few : (text : List ℕ) → length (doubled text) ≤ 2 * length text
doubled_few [] = omega arith
doubled_few (b ∷ text) = by (eqb b 34) (doubled_few text)
  where
    by : (t : Bool) → length (doubled text) ≤ 2 * length text → length (cond t (34 ∷ 34 ∷ doubled text) (b ∷ doubled text)) ≤ 2 * suc (length text)
    by true few = omega (arith, few)
    by false few = omega (arith, few)

pub field_fits : (text : List ℕ) (most_of_it room : ℕ) → most_of_it ≡ told (length text * 2) → room ≡ told (most_of_it + 2) → told (length (print_field (text_field text))) ≤ room
field_fits text most_of_it room product sum =
    omega (arith, by (needs_quotes text), product, sum)
  where
    by : (t : Bool) → length (print_field (cond t (quoted text) (unquoted text))) ≤ 2 * length text + 2
    by true = omega (arith, doubled_few text, length-append (doubled text) (34 ∷ []))
    by false = omega arith

pub signed_few : (z : ℤ) → FitsSigned w64 z → length (signed_decimal z) ≤ 21
signed_few (pos n) fits = omega (arith, short_number n (omega (arith, ints, fits)))
signed_few (negsuc n) fits = omega (arith, short_number (suc n) (omega (arith, ints, fits)))

millionths_few : (n : ℕ) → n < 2 ^ 64 → length (millionths_text n) ≤ 21
millionths_few n fits =
    omega (arith, length-append (decimal (n / 1_000_000)) (fraction_text (n % 1_000_000)), length-decimal-le_wide 14 (n / 1_000_000) (omega arith) (omega (arith, fits)) (omega (arith, fits)), short_fraction (n % 1_000_000))

pub decimal_few : (z : ℤ) → FitsSigned w64 z → length (decimal_text z) ≤ 22
unfolding decimal_text
decimal_few (pos n) fits = omega (arith, millionths_few n (omega (arith, ints, fits)))
decimal_few (negsuc n) fits = omega (arith, millionths_few (suc n) (omega (arith, ints, fits)))

truth_few : (json : Bool) (truth : Bool) → length (printed_value json (boolean truth)) ≤ 22
truth_few json true = omega arith
truth_few json false = omega arith

day_few : (json : Bool) (year : ℤ) (month day : ℕ) → length (printed_value json (date year month day)) ≤ 22
day_few true (pos y) month day = omega arith
day_few true (negsuc y) month day = omega arith
day_few false (pos y) month day = omega arith
day_few false (negsuc y) month day = omega arith

pub kind_few : (json : Bool) (kind : NumberKind) (z : ℤ) → FitsSigned w64 z → length (printed_value json (typed_cell kind z)) ≤ 22
kind_few json Integer z fits = omega (arith, signed_few z fits)
kind_few json Decimal z fits = decimal_few z fits
kind_few json Boolean z fits = truth_few json (int_eq z (pos 1))
kind_few json Date z fits = day_few json _ _ _
