-- Digits, by a test and by their value.
use Rattle.std.proofs.Common.{◌≡◌, ℕ, ◌+◌, ◌-◌, ◌*◌, ◌^◌, ◌<◌, ◌≤◌, List, [], ◌∷◌, length, take, get_or, refl, ◌∙◌, ap, arith, length-take}
use Rattle.std.proofs.lemmas.Bool.Decides.{nat_tests, Decides-and}
use Rattle.std.proofs.lemmas.Int.Digits.{digits_value_more}
use Rattle.std.proofs.lemmas.Str.Parse.{IsNumeralModel, numerals_by_value, tells_digits, digits_value_short, digit_at, tells_by_index}
use Rattle.std.specs.Bool.{Decides}
use Rattle.std.specs.Char.{digit_value, is_ascii_digit}
use Rattle.std.specs.Int.{IsInRange}
use Rattle.std.specs.List.{list_all}
use Rattle.std.specs.Str.Parse.{AllDigits, digits_value}
use Rattle.std.proofs.lemmas.List.{get_or-take}

pub Decides-digit : (b : ℕ) → Decides (is_ascii_digit b) (digit_value b < 10)
Decides-digit b = ((λ yes. grind (arith, nat_tests)), (λ small. grind (arith, nat_tests)))

pub Decides-digits : (bytes : List ℕ) → Decides (list_all is_ascii_digit bytes) (AllDigits 10 bytes)
Decides-digits [] = ((λ _. tt), (λ _. refl))
Decides-digits (b ∷ bytes) = Decides-and _ _ (Decides-digit b) (Decides-digits bytes)

pub digit_value_is : (b : ℕ) → IsInRange 48 57 b → digit_value b ≡ b - 48
digit_value_is b range = grind (arith, nat_tests)

own : IsNumeralModel (AllDigits 10) (digits_value 10)
own = numerals_by_value _ tells_digits

-- one digit more
pub value_more : (bytes : List ℕ) (n : ℕ) → AllDigits 10 bytes → n < length bytes → digits_value 10 (take (n + 1) bytes) ≡ digits_value 10 (take n bytes) * 10 + (get_or bytes n 0 - 48)
value_more bytes n digits within =
    digits_value_more 10 bytes n within ∙ ap (λ d. digits_value 10 (take n bytes) * 10 + d) (digit_value_is (get_or bytes n 0) (digit_at bytes n digits within))

pub take_short : (n : ℕ) (bytes : List ℕ) (k : ℕ) → n ≤ k → length (take n bytes) ≤ k
take_short n bytes k short = omega (arith, length-take n bytes)

pub value_whole : (bytes : List ℕ) (n : ℕ) → AllDigits 10 bytes → length bytes ≤ n → digits_value 10 bytes < 10 ^ n
value_whole bytes n digits short = digits_value_short own bytes n digits short

pub value_small : (bytes : List ℕ) (n : ℕ) → AllDigits 10 bytes → n ≤ 3 → digits_value 10 (take n bytes) < 1000
value_small bytes n digits short =
    digits_value_short (numerals_by_value _ tells_by_index) (take n bytes) 3
    (λ i within. rw (get_or-take n bytes i 0 (omega (arith, within, length-take n bytes))) (digit_at bytes i digits (omega (arith, within, length-take n bytes))))
    (take_short n bytes 3 short)
