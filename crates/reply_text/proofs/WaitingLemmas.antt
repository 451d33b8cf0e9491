-- Bytes that are taken of replies that wait.
use Rattle.std.proofs.Common.{◌≡◌, ℕ, ◌+◌, ◌-◌, ◌≤◌, List, [], ◌∷◌, ◌++◌, length, take, drop, refl, sym, ap, ◌∙◌, arith, append_assoc, append-nil, length-drop}
use Rattle.std.specs.List.{concat}
use Rattle.std.proofs.lemmas.List.{drop-drop, drop-append-le, drop-take, drop_all, drop_at, length-take-le, nil_from_length, take-append-drop, take-append-le, take-take, take_all, take_at}
use Rattle.std.proofs.lemmas.List.Folds.{concat-append}
use borrow.Rule.Slice.PartMut.{mid_of, post_of, put_mid}

-- one more reply after those that wait
pub give_one : (first reply now r : List ℕ) (others after : List (List ℕ)) → first ++ concat others ≡ now → after ≡ others ++ r ∷ [] → r ≡ reply
    → first ++ concat after ≡ now ++ reply
give_one first reply now r others after v e q = rw (e, concat-append, append-nil, ← append_assoc, v, q) refl

-- `more` further bytes of the first reply are passed
pub pass_more : (first rest old : List ℕ) (passed more : ℕ) → more ≤ length first → first ++ rest ≡ drop passed old
    → drop more first ++ rest ≡ drop (passed + more) old
pass_more first rest old passed more h e = sym (drop-append-le more first rest h) ∙ ap (λ (xs : List ℕ). drop more xs) e ∙ drop-drop more passed old

-- the next reply, of which `more` bytes are passed, if none of the first was left
pub pass_next : (first reply mine old : List ℕ) (others after : List (List ℕ)) (passed more : ℕ) → length first ≡ 0 → first ++ concat others ≡ drop passed old
    → others ≡ reply ∷ after → more ≤ length reply → mine ≡ drop more reply → mine ++ concat after ≡ drop (passed + more) old
pass_next first reply mine old others after passed more z e o h m =
    rw m (pass_more reply (concat after) old passed more h (rw (o, nil_from_length first z) at e))

front_more : (S : List ℕ) (c m : ℕ) → take c S ++ take m (drop c S) ≡ take (c + m) S
front_more S c m =
    ap (λ (xs : List ℕ). xs ++ take m (drop c S)) (sym (take-take c (c + m) S (omega arith)))
    ∙ ap (λ (xs : List ℕ). take c (take (c + m) S) ++ xs) (sym (drop-take c m S))
    ∙ take-append-drop c (take (c + m) S)

-- `m` bytes more of what waits are in a buffer, whose rest stays
pub taken_more : (S B w behind buf to : List ℕ) (c m : ℕ) → c ≤ length S → m ≤ length w → buf ≡ take c S ++ drop c B → w ++ behind ≡ drop c S
    → to ≡ take m w ++ drop m (mid_of c (length buf - c) buf) → put_mid c (length buf - c) buf to ≡ take (c + m) S ++ drop (c + m) B
taken_more S B w behind buf to c m h few e whole t =
    let long : length (take c S) ≡ c = length-take-le c S h in
    let front : take c buf ≡ take c S = ap (λ (xs : List ℕ). take c xs) e ∙ take_at (take c S) (drop c B) c long in
    let back : drop c buf ≡ drop c B = ap (λ (xs : List ℕ). drop c xs) e ∙ drop_at (take c S) (drop c B) c long in
    let fits : length (drop c buf) ≤ length buf - c = omega (arith, length-drop c buf) in
    let mid : mid_of c (length buf - c) buf ≡ drop c B = take_all (length buf - c) (drop c buf) fits ∙ back in
    let post : post_of c (length buf - c) buf ≡ [] = drop_all (length buf - c) (drop c buf) fits in
    let moved : take m w ≡ take m (drop c S) = sym (take-append-le m w behind few) ∙ ap (λ (xs : List ℕ). take m xs) whole in
    let kept : drop m (mid_of c (length buf - c) buf) ≡ drop (c + m) B = ap (λ (xs : List ℕ). drop m xs) mid ∙ drop-drop m c B in
    let part : to ≡ take m (drop c S) ++ drop (c + m) B =
    t ∙ ap (λ (xs : List ℕ). xs ++ drop m (mid_of c (length buf - c) buf)) moved ∙ ap (λ (xs : List ℕ). take m (drop c S) ++ xs) kept in
    ap (λ (xs : List ℕ). xs ++ (to ++ post_of c (length buf - c) buf)) front
    ∙ ap (λ (xs : List ℕ). take c S ++ (to ++ xs)) post
    ∙ ap (λ (xs : List ℕ). take c S ++ xs) (append-nil to ∙ part)
    ∙ sym (append_assoc (take c S) (take m (drop c S)) (drop (c + m) B))
    ∙ ap (λ (xs : List ℕ). xs ++ drop (c + m) B) (front_more S c m)
