-- Fronts of lists.
use Rattle.std.proofs.Common.{◌≡◌, ℕ, zero, suc, ◌+◌, ◌<◌, ◌≤◌, List, [], ◌∷◌, ◌++◌, length, get_or, take, set, sym, ap, ◌∙◌, arith}
use Rattle.std.proofs.lemmas.List.{take_more, take_more_set, take-take, length-take, take_all}
use Rattle.std.proofs.lemmas.Slice.{take-put_mid}
use borrow.Rule.Slice.PartMut.{put_mid}

-- one place more is written
pub kept-more : (out ends : List ℕ) (i : ℕ) → i < length out → i < length ends → take i out ≡ take i ends → take (i + 1) (set out i (get_or ends i 0)) ≡ take (i + 1) ends
kept-more out ends i lt within so_far =
    take_more_set out i (get_or ends i 0) lt ∙ ap (λ xs. xs ++ get_or ends i 0 ∷ []) so_far ∙ sym (take_more ends i 0 within)

pub kept-all : (out ends : List ℕ) (n : ℕ) → length out ≤ n → length ends ≤ n → take n out ≡ take n ends → out ≡ ends
kept-all out ends n long within same = sym (take_all n out long) ∙ same ∙ take_all n ends within

-- a front that ends in the second of two lists
pub take-second : {X : Type 0} (xs ys : List X) (n m : ℕ) → n ≡ length xs + m → take n (xs ++ ys) ≡ xs ++ take m ys
take-second [] ys n m long = ap (λ k. take k ys) (omega (arith, long))
take-second (x ∷ xs) ys zero m long = absurd (omega (arith, long))
take-second (x ∷ xs) ys (suc n) m long = ap (λ rest. x ∷ rest) (take-second xs ys n m (omega (arith, long)))

pub take-front-le : {X : Type 0} (xs : List X) (n : ℕ) → n ≤ length xs → length (take n xs) ≡ n
take-front-le xs n le = omega (arith, length-take n xs)

-- more is copied than the text has
pub copied_over : (out rest piece ys : List ℕ) (at k : ℕ) → at ≤ length out → length piece ≤ 16 → length ys ≡ 16 → ys ≡ take 16 rest → take (length piece) rest ≡ piece
    → take (at + length piece) (put_mid at k out ys) ≡ take at out ++ piece
copied_over out rest piece ys at k within short long is front =
    sym (take-take (at + length piece) (at + 16) (put_mid at k out ys) (omega arith))
    ∙ ap (take (at + length piece)) (take-put_mid at k out ys (at + 16) (omega (arith, long)) within)
    ∙ take-second (take at out) ys (at + length piece) (length piece) (omega (arith, take-front-le out at within))
    ∙ ap (λ zs. take at out ++ take (length piece) zs) is
    ∙ ap (λ zs. take at out ++ zs) (take-take (length piece) 16 rest short)
    ∙ ap (λ zs. take at out ++ zs) front
