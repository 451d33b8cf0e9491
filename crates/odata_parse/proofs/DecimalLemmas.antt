-- What decimals write.
use Rattle.std.proofs.Common.{◌≡◌, ℕ, ℤ, pos, ◌*ℤ◌, ◌+ℤ◌, to_z, of_z, zero, suc, ◌+◌, ◌-◌, ◌*◌, ◌^◌, ◌<◌, ◌≤◌, false, List, ◌∷◌, ◌++◌, length, take, drop, Option, Some, None, get_or, refl, sym, ap, ◌∙◌, arith, length-append}
use Rattle.std.proofs.lemmas.Bool.Decides.{nat_tests}
use Rattle.std.proofs.lemmas.List.{take_at, drop_at, drop-drop, get_or_append_left}
use Rattle.std.proofs.lemmas.List.Sums.{position_or_len_is}
use Rattle.std.proofs.lemmas.Str.Parse.{IsNumeralModel, numerals_by_value, tells_digits, digits_value_short, digit_at}
use Rattle.std.proofs.Math.Seq.{get_or-append_seam}
use Rattle.std.specs.List.{position_or_len}
use Rattle.std.specs.Int.{IsInRange}
use Rattle.std.specs.Str.Parse.{AllDigits, digits_value}
use Rattle.odata_lex.specs.Token.{point, AreDigits, IsNumberToken, IsDecimal}
use Rattle.std.proofs.Math.Nat.{mul-le-mul}
use Rattle.std.proofs.lemmas.Int.{ints}
use Rattle.std.proofs.lemmas.Str.Pattern.{IsSplitOnceResult, split_once_first}
use Rattle.std.specs.Option.{IsSome}
use denote.Bor.{Bor}
use mir.Syntax.{w128}
use mir.Val.{SFits}
use Rattle.odata_parse.specs.Literal.{is_decimal_point, whole_of, fraction_of, millionths_of}

own : IsNumeralModel (AllDigits 10) (digits_value 10)
own = numerals_by_value _ tells_digits

no_point : (b : ℕ) → IsInRange 48 57 b → is_decimal_point b ≡ false
no_point b range = grind (arith, nat_tests)

-- the point stands after the digits
point_at : (whole fraction : List ℕ) → AreDigits whole → position_or_len is_decimal_point (whole ++ point ∷ fraction) ≡ length whole
point_at whole fraction digits =
    position_or_len_is is_decimal_point (whole ++ point ∷ fraction) (length whole) 0 (omega (arith, length-append whole (point ∷ fraction)))
    (λ k below. ap is_decimal_point (get_or_append_left whole (point ∷ fraction) 0 k below) ∙ no_point (get_or whole k 0) (digit_at whole k digits below))
    (λ _. ap is_decimal_point (get_or-append_seam whole point fraction 0))

whole_is : (whole fraction : List ℕ) → AreDigits whole → whole_of (whole ++ point ∷ fraction) ≡ whole
whole_is whole fraction digits =
    ap (λ n. take n (whole ++ point ∷ fraction)) (point_at whole fraction digits) ∙ take_at whole (point ∷ fraction) (length whole) refl

fraction_is : (whole fraction : List ℕ) → AreDigits whole → fraction_of (whole ++ point ∷ fraction) ≡ fraction
fraction_is whole fraction digits =
    ap (λ n. drop (n + 1) (whole ++ point ∷ fraction)) (point_at whole fraction digits)
    ∙ sym (drop-drop 1 (length whole) (whole ++ point ∷ fraction))
    ∙ ap (drop 1) (drop_at whole (point ∷ fraction) (length whole) refl)

-- a decimal parted at its point
pub record Parts (text : List ℕ) : Type 0 where
  pub point_within : position_or_len is_decimal_point text < length text
  pub whole_number : IsNumberToken (whole_of text)
  pub fraction_number : IsNumberToken (fraction_of text)
  pub fraction_short : length (fraction_of text) ≤ 6
  pub whole_small : digits_value 10 (whole_of text) < 10 ^ 32
  pub fraction_small : digits_value 10 (fraction_of text) < 10 ^ 6

pub parts_of : (text : List ℕ) → IsDecimal text → Parts text
parts_of text d =
    let whole : whole_of text ≡ d.whole = ap whole_of d.printed ∙ whole_is d.whole d.fraction d.before in
    let fraction : fraction_of text ≡ d.fraction = ap fraction_of d.printed ∙ fraction_is d.whole d.fraction d.before in
    let at : position_or_len is_decimal_point text ≡ length d.whole = ap (position_or_len is_decimal_point) d.printed ∙ point_at d.whole d.fraction d.before in
    record {
      point_within = omega (arith, at, ap length d.printed, length-append d.whole (point ∷ d.fraction));
      whole_number = rw whole (record { digits = d.before; nonempty = d.some_before; short = omega (arith, d.few_before) });
      fraction_number = rw fraction (record { digits = d.behind; nonempty = d.some_behind; short = omega (arith, d.few_behind) });
      fraction_short = rw fraction d.few_behind;
      whole_small = rw whole (digits_value_short own d.whole 32 d.before d.few_before);
      fraction_small = rw fraction (digits_value_short own d.fraction 6 d.behind d.few_behind);
    }

-- what scales a fraction is small
pub scale_small : (n : ℕ) → 10 ^ (6 - n) ≤ 1000000
scale_small zero = omega arith
scale_small (suc zero) = omega arith
scale_small (suc (suc zero)) = omega arith
scale_small (suc (suc (suc zero))) = omega arith
scale_small (suc (suc (suc (suc zero)))) = omega arith
scale_small (suc (suc (suc (suc (suc zero))))) = omega arith
scale_small (suc (suc (suc (suc (suc (suc n)))))) =
    let none : 6 - suc (suc (suc (suc (suc (suc n))))) ≡ 0 = omega arith in rw none (omega arith)

-- numbers of 127 bits keep their value
kept : (n : ℕ) → n < 2 ^ 127 → to_z w128 (of_z w128 (pos n)) ≡ pos n
kept n small = omega (arith, ints)

pub fits : (n : ℕ) → n < 2 ^ 127 → SFits w128 (pos n)
fits n small = omega (arith, ints)

product : (a b : ℕ) → pos a *ℤ pos b ≡ pos (a * b)
product a b = refl

-- the value of the parts
pub record IsWhole (a : ℕ) (x : ℤ) : Type 0 where
  pub is : x ≡ pos a
  pub small : a < 10 ^ 32

pub whole_fits : (a : ℕ) (x : ℤ) → IsWhole a x → SFits w128 (to_z w128 (of_z w128 x) *ℤ pos 1000000)
whole_fits a x w = rw (w.is, kept a (omega (arith, w.small)), product a 1000000) (fits (a * 1000000) (omega (arith, w.small)))

pub record IsFraction (b s : ℕ) (y z : ℤ) : Type 0 where
  pub is : y ≡ pos b
  pub scale : z ≡ pos s
  pub small : b < 10 ^ 6
  pub scale_small : s ≤ 1000000

fraction_small : (b s : ℕ) (y z : ℤ) → IsFraction b s y z → b * s ≤ 1000000 * 1000000
fraction_small b s y z f = mul-le-mul {n₁ = b} {m₁ = s} {n₂ = 1000000} {m₂ = 1000000} (omega (arith, f.small)) f.scale_small

fraction_value : (b s : ℕ) (y z : ℤ) → IsFraction b s y z → to_z w128 (of_z w128 y) *ℤ to_z w128 (of_z w128 z) ≡ pos (b * s)
fraction_value b s y z f = rw (f.is, f.scale, kept b (omega (arith, f.small)), kept s (omega (arith, f.scale_small))) (product b s)

pub fraction_fits : (b s : ℕ) (y z : ℤ) → IsFraction b s y z → SFits w128 (to_z w128 (of_z w128 y) *ℤ to_z w128 (of_z w128 z))
fraction_fits b s y z f = rw (fraction_value b s y z f) (fits (b * s) (omega (arith, fraction_small b s y z f)))

abbrev pub joined : ℤ → ℤ → ℤ → ℤ
joined x y z = to_z w128 (of_z w128 (to_z w128 (of_z w128 x) *ℤ pos 1000000)) +ℤ to_z w128 (of_z w128 (to_z w128 (of_z w128 y) *ℤ to_z w128 (of_z w128 z)))

joined_value : (a b s : ℕ) (x y z : ℤ) → IsWhole a x → IsFraction b s y z → joined x y z ≡ pos (a * 1000000 + b * s)
joined_value a b s x y z w f =
    rw (fraction_value b s y z f, kept (b * s) (omega (arith, fraction_small b s y z f)), w.is, kept a (omega (arith, w.small)), product a 1000000, kept (a * 1000000) (omega (arith, w.small))) refl

pub joined_fits : (a b s : ℕ) (x y z : ℤ) → IsWhole a x → IsFraction b s y z → SFits w128 (joined x y z)
joined_fits a b s x y z w f =
    rw (joined_value a b s x y z w f) (fits (a * 1000000 + b * s) (omega (arith, w.small, fraction_small b s y z f)))

pub joined_is : (a b s : ℕ) (x y z : ℤ) → IsWhole a x → IsFraction b s y z → to_z w128 (of_z w128 (joined x y z)) ≡ pos (a * 1000000 + b * s)
joined_is a b s x y z w f =
    rw (joined_value a b s x y z w f) (kept (a * 1000000 + b * s) (omega (arith, w.small, fraction_small b s y z f)))

-- a decimal in 127 bits
pub millionths_fit : (text : List ℕ) → IsDecimal text → millionths_of text < 2 ^ 127
millionths_fit text d =
    let p = parts_of text d in
    let product = mul-le-mul {n₁ = digits_value 10 (fraction_of text)} {n₂ = 1000000} (omega (arith, p.fraction_small)) (scale_small (length (fraction_of text))) in
    omega (arith, p.whole_small, product)

-- what `split_once` gives at the point
pub record Halves (text front back : List ℕ) : Type 0 where
  pub before : front ≡ whole_of text
  pub behind : back ≡ fraction_of text

pub halves : (text : List ℕ) (x : Bor (List ℕ) × Bor (List ℕ)) → IsSplitOnceResult 46 text (Some x) → Halves text x.0.now x.1.now
halves text x split =
    let h = split_once_first 46 text (Some x) split (omega arith) in record { before = h.1; behind = h.2 }

pub some_half : (text : List ℕ) (r : Option (Bor (List ℕ) × Bor (List ℕ))) → IsDecimal text → IsSplitOnceResult 46 text r → IsSome r
some_half text (Some x) d split = refl
some_half text None d split =
    let none = split_once_first 46 text None split (omega arith) in
    absurd (omega (arith, none, (parts_of text d).point_within))
