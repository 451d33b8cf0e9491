-- The decimal that is given begins the text.
use Rattle.std.proofs.Common.{◌≡◌, ℕ, ◌+◌, ◌<◌, Bool, true, false, if◌then◌else◌, List, ◌∷◌, ◌++◌, length, take, drop, None, Some, refl, ap, ◌∙◌, sym, arith, append_assoc, length-append, length-take-le}
use Rattle.std.proofs.lemmas.List.{take-append-drop, drop-drop}
use Rattle.odata_lex.specs.Token.{point}
use Rattle.odata_lex.specs.First.{word_len, begins_decimal, behind_point, fits_decimal}
use Rattle.odata_lex.specs.declared.token.TokenKind.TheVariants.{Decimal}
use Rattle.odata_lex.proofs.Decimals.{decimal_parts, Decides-fits}
use Rattle.odata_lex.proofs.Finds.{FindsIn}
use Rattle.odata_lex.proofs.Runs.{run_ends, run_within, ends_before, digit_begins}

decimal_split : (text whole rest : List ℕ) (n : ℕ) → text ≡ whole ++ point ∷ rest → text ≡ (whole ++ point ∷ take n rest) ++ drop n rest
decimal_split text whole rest n split =
    split ∙ ap (λ l. whole ++ point ∷ l) (sym (take-append-drop n rest)) ∙ sym (append_assoc whole (point ∷ take n rest) (drop n rest))

pub decimal_found : (text : List ℕ) (q : Bool) → 0 < word_len text → begins_decimal text ≡ true → fits_decimal (word_len text) (behind_point text) ≡ q → FindsIn text (if q then Some (Decimal, word_len text + 1 + word_len (behind_point text)) else None)
decimal_found text false some begins fits = tt
decimal_found text true some begins fits =
    let f = (Decides-fits (word_len text) (behind_point text)).0 fits in
    let p = decimal_parts text begins in
    let whole : List ℕ = take (word_len text) text in
    let behind : behind_point text ≡ p.1.digit ∷ p.1.after = sym (drop-drop 1 (word_len text) text) ∙ ap (drop 1) p.1.split in
    let n : ℕ = word_len (behind_point text) in
    let fraction : List ℕ = take n (behind_point text) in
    let split : text ≡ (whole ++ point ∷ fraction) ++ drop n (behind_point text) =
    decimal_split text whole (behind_point text) n (sym (take-append-drop (word_len text) text) ∙ ap (λ l. whole ++ l) (p.1.split ∙ ap (λ l. point ∷ l) (sym behind))) in
    let before_len : length whole ≡ word_len text = length-take-le (word_len text) text (run_within text) in
    let behind_len : length fraction ≡ n = length-take-le n (behind_point text) (run_within (behind_point text)) in
    let some_behind : 0 < n = digit_begins (behind_point text) p.1.digit p.1.after behind p.1.small in
    record {
      front = whole ++ point ∷ fraction;
      after = drop n (behind_point text);
      begins = record {
        split = split;
        form = record { whole = whole; fraction = fraction; printed = refl; before = p.0; behind = f.digits; some_before = rw before_len some; some_behind = rw behind_len some_behind; few_before = rw before_len f.few_before; few_behind = rw behind_len f.few_behind };
        ends = ends_before _ (run_ends (behind_point text));
        no_date = λ e. absurd (cc);
        no_decimal = λ e. absurd (cc);
      };
      len = omega (arith, before_len, behind_len, length-append whole (point ∷ fraction));
    }
