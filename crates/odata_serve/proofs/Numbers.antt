-- Which numbers `clap` takes.
use Rattle.std.proofs.Common.{◌≡◌, ◌<◌, ◌^◌, ◌==◌, ℕ, Bool, true, false, cond, [], ◌∷◌, drop, Some, None, refl, sym, ap, subst, arith}
use Rattle.std.specs.Prelude.{pos, unwrap_or}
use Rattle.std.specs.Str.Parse.{IsNumeral, digits_value, starts_with_minus, without_leading_plus}
use Rattle.std.proofs.lemmas.Bool.{ne_eqb}
use Rattle.std.proofs.lemmas.Int.{ints}
use Rattle.std.proofs.lemmas.Str.Parse.{digit_from_value}
use Rattle.clap.specs.Lexer.{without_minus}
use Rattle.clap.specs.Values.{IsSignedIn}
use Rattle.clap.specs.Words.{Text}
use Rattle.cli_args.specs.Words.{IsNumberOfBits}

without_minus-cond : (t : Text) → without_minus t ≡ cond (starts_with_minus t) (drop 1 t) t
without_minus-cond [] = refl
without_minus-cond (x ∷ xs) = go (x == 45)
  where
    go : (b : Bool) → unwrap_or (cond b (Some xs) None) (x ∷ xs) ≡ cond b xs (x ∷ xs)
    go true = refl
    go false = refl

no_plus : (ds : Text) → IsNumeral 10 ds → without_leading_plus ds ≡ ds
no_plus [] h = refl
no_plus (d ∷ ds) h =
    let plus : (d == 43) ≡ false = ne_eqb _ _ (λ e. omega (arith, digit_from_value d h.1.0)) in
    ap (λ (b : Bool). drop (cond b 1 0) (d ∷ ds)) plus

-- a text that `clap` takes for a number from zero up is one, after a `-` that it may have before zero
pub number_taken : (bits high : ℕ) (t : Text) → high < 2 ^ bits → IsSignedIn (pos 0) (pos high) t → (n : ℕ) × IsNumberOfBits bits (Some (without_minus t)) n
number_taken bits high t fits h =
    let u = without_leading_plus (without_minus t) in
    (digits_value 10 u, (subst (λ (v : Text). Fits (without_leading_plus v)) (sym (without_minus-cond t)) (go (starts_with_minus t) refl), refl))
  where
    Fits : Text → Type 0
    Fits ds = IsNumeral 10 ds × (digits_value 10 ds < 2 ^ bits)

    go : (b : Bool) → starts_with_minus t ≡ b → Fits (without_leading_plus (cond (starts_with_minus t) (drop 1 t) t))
    go true minus =
        let low_ok = rw minus at h.2 in
        let numeral : IsNumeral 10 (drop 1 t) = rw minus at h.0 in
        let small : digits_value 10 (drop 1 t) < 2 ^ bits = omega (arith, ints) in
        let plain : Fits (without_leading_plus (drop 1 t)) = subst Fits (sym (no_plus (drop 1 t) numeral)) (numeral, small) in
        subst (λ (b : Bool). Fits (without_leading_plus (cond b (drop 1 t) t))) (sym minus) plain
    go false minus =
        let high_ok = rw minus at h.3 in
        let numeral : IsNumeral 10 (without_leading_plus t) = rw minus at h.0 in
        let small : digits_value 10 (without_leading_plus t) < 2 ^ bits = omega (arith, ints) in
        subst (λ (b : Bool). Fits (without_leading_plus (cond b (drop 1 t) t))) (sym minus) (numeral, small)
