-- Crates above may cite this file: laws of numbers alone.
use Rattle.std.proofs.Common.{◌≡◌, ℕ, zero, suc, ◌+◌, ◌<◌, ◌≤◌, [], ◌∷◌, ◌++◌, length, get_or, take, refl, ap, ◌∙◌, arith}
use Rattle.row_selection.specs.Numbers.{numbers_from}

pub numbers_more : (start count : ℕ) → numbers_from start (count + 1) ≡ numbers_from start count ++ (start + count) ∷ []
numbers_more start zero = ap (λ n. n ∷ []) (omega arith)
numbers_more start (suc count) =
    let more : suc count + 1 ≡ suc (count + 1) = omega arith in
    let last : suc start + count ≡ start + suc count = omega arith in
    ap (numbers_from start) more
    ∙ ap (λ ns. start ∷ ns) (numbers_more (suc start) count ∙ ap (λ n. numbers_from (suc start) count ++ n ∷ []) last)

pub length-from : (start count : ℕ) → length (numbers_from start count) ≡ count
length-from start zero = refl
length-from start (suc count) = ap suc (length-from (suc start) count)

pub get-from : (start count i : ℕ) → i < count → get_or (numbers_from start count) i 0 ≡ start + i
get-from start zero i less = absurd (omega arith)
get-from start (suc count) zero less = omega arith
get-from start (suc count) (suc i) less =
    let same : suc start + i ≡ start + suc i = omega arith in get-from (suc start) count i (omega (arith, less)) ∙ same

pub take-from : (start count len : ℕ) → len ≤ count → take len (numbers_from start count) ≡ numbers_from start len
take-from start count zero less = refl
take-from start zero (suc len) less = absurd (omega arith)
take-from start (suc count) (suc len) less = ap (λ ns. start ∷ ns) (take-from (suc start) count len (omega arith))
