-- The point is among the digits.
use Rattle.std.proofs.Common.{◌≡◌, ◌∙◌, ◌+◌, ◌-◌, ◌++◌, ℕ, List, ap, arith, drop, length, length-append, take}
use Rattle.std.specs.List.{after_first, before_first}
use Rattle.cell_types.specs.Decimal.{is_point}
use Rattle.value_forms.specs.Numbers.{places_text, sign_text}
use Rattle.value_forms.specs.Scale.{moved, places_after, point_with, spread, whole_digits, whole_digits_of}
use Rattle.value_forms.proofs.ScaleLemmas.{length-zeros}
use Rattle.value_forms.proofs.scale.moved_text.Goals as goal

length-spread : (front back : ℕ) (whole fraction : List ℕ) → length (spread front back whole fraction) ≡ front + length whole + length fraction + (back - length fraction)
length-spread front back whole fraction = simp (length-append, length-zeros) (omega arith)

combined : (made pushed signed sign digits slice all before after : List ℕ) (p q : ℕ) → made ≡ pushed ++ places_text after → pushed ≡ signed ++ whole_digits before
    → signed ≡ sign → before ≡ take p slice → after ≡ drop p slice → slice ≡ digits → digits ≡ all → p ≡ q
    → made ≡ sign ++ whole_digits (take q all) ++ places_text (drop q all)
combined made pushed signed sign digits slice all before after p q a b d e f g h i = cc

pub returns : goal.returns
unfolding moved
returns c =
    let number = c.args.number.now in
    let front = c.args.front in
    let back = c.args.back in
    let first = c.parts.result.0.now in
    let second = c.parts.result.1.now in
    let whole : first ≡ whole_digits_of number = c.parts.ensures.whole ∙ ap (before_first is_point) c.without_sign.ensures in
    let places : second ≡ places_after number = c.parts.ensures.fraction ∙ ap (after_first is_point) c.without_sign.ensures in
    let digits : c.in_ok-digits.digits.items ≡ spread front back (whole_digits_of number) (places_after number) =
    c.in_ok-digits.ensures ∙ (ap (λ (w : List ℕ). spread front back w second) whole ∙ ap (spread front back (whole_digits_of number)) places) in
    let size : length c.in_ok-digits.digits.items ≡ front + length first + length second + (back - length second) =
    ap length c.in_ok-digits.ensures ∙ length-spread front back first second in
    let point : c.min-point.result ≡ length first + back = omega (arith, size) in
    combined c.push_fraction.new.made.items c.push_whole.new.made.items c.in_ok-made.made.items (sign_text number) c.in_ok-digits.digits.items c.as_slice.result.now
    (spread front back (whole_digits_of number) (places_after number)) c.split_at.result.0.now c.split_at.result.1.now c.min-point.result (point_with back number)
    c.in_ok-push_fraction.ensures c.in_ok-push_whole.ensures c.in_ok-made.ensures c.split_at.ensures.front c.split_at.ensures.back c.as_slice.ensures.value digits
    (point ∙ ap (λ (w : List ℕ). length w + back) whole)
