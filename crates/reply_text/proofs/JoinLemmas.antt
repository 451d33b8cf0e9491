-- Items with a comma between each two.
use Rattle.std.proofs.Common.{◌≡◌, ◌<◌, ◌≤◌, ℕ, zero, suc, ◌+◌, ◌-◌, List, [], ◌∷◌, ◌++◌, length, map, take, get_or, refl, sym, ap, ◌∙◌, arith, append_assoc, append-nil, length-append, tests}
use Rattle.std.specs.List.{concat, flat_map, join_with_byte}
use Rattle.std.proofs.lemmas.List.{length-map, length-take, length-take-le, map_more}
use Rattle.std.proofs.lemmas.List.Concat.{concat_is}
use Rattle.std.proofs.lemmas.List.Folds.{flat_map-map}
use Rattle.reply_text.specs.Json.{comma_before}

pub comma_after : (place : ℕ) → comma_before (suc place) ≡ 44 ∷ []
comma_after place = grind (arith, tests)

-- one item more
pub join_more : (pieces : List (List ℕ)) (piece : List ℕ) → join_with_byte 44 (pieces ++ piece ∷ []) ≡ join_with_byte 44 pieces ++ (comma_before (length pieces) ++ piece)
join_more [] piece = refl
join_more (first ∷ []) piece = refl
join_more (first ∷ second ∷ pieces) piece = rw (join_more (second ∷ pieces) piece, append_assoc, comma_after, comma_after) refl

regroup : (a b c d : List ℕ) → ((a ++ b) ++ c) ++ d ≡ a ++ (b ++ (c ++ d))
regroup a b c d = simp append_assoc

-- one more, written after its comma
pub item_more : {X : Type 0} (f : X → List ℕ) (xs : List X) (x : X) (start before between after : List ℕ) (place : ℕ)
    → before ≡ start ++ join_with_byte 44 (map f (take place xs)) → place < length xs → x ≡ get_or xs place x
    → between ≡ before ++ comma_before place → after ≡ between ++ f x → after ≡ start ++ join_with_byte 44 (map f (take (place + 1) xs))
item_more f xs x start before between after place so_far within at comma_is item_is =
    let front = map f (take place xs) in
    let here : length front ≡ place = length-map (take place xs) f ∙ length-take-le place xs (omega (arith, within)) in
    let more : map f (take (place + 1) xs) ≡ front ++ f x ∷ [] = map_more f xs place x within ∙ ap (λ last. front ++ f last ∷ []) (sym at) in
    item_is ∙ ap (λ l. l ++ f x) (comma_is ∙ ap (λ l. l ++ comma_before place) so_far) ∙ regroup start (join_with_byte 44 front) (comma_before place) (f x)
    ∙ ap (λ l. start ++ l) (sym (ap (join_with_byte 44) more ∙ join_more front (f x) ∙ ap (λ n. join_with_byte 44 front ++ (comma_before n ++ f x)) here))

-- the first, and each other after its comma
pub join_is : {X : Type 0} (f : X → List ℕ) (x : X) (xs : List X) → join_with_byte 44 (map f (x ∷ xs)) ≡ f x ++ flat_map (λ y. 44 ∷ f y) xs
join_is f x [] = sym (append-nil (f x))
join_is f x (y ∷ xs) = ap (λ l. f x ++ (44 ∷ l)) (join_is f y xs)

-- ---- how long they are

pub flat_is_concat : {X : Type 0} (f : X → List ℕ) (xs : List X) → concat (map f xs) ≡ flat_map f xs
flat_is_concat f xs = concat_is (map f xs) ∙ flat_map-map (λ x. x) f xs

pub length-join : (pieces : List (List ℕ)) → length (join_with_byte 44 pieces) ≡ length (concat pieces) + (length pieces - 1)
length-join [] = refl
length-join (piece ∷ []) = omega (arith, length-append piece [])
length-join (piece ∷ next ∷ pieces) =
    omega (arith, length-append piece (44 ∷ join_with_byte 44 (next ∷ pieces)), length-append piece (concat (next ∷ pieces)), length-join (next ∷ pieces))

-- the first are no longer than all
pub concat_front : (n : ℕ) (pieces : List (List ℕ)) → length (concat (take n pieces)) ≤ length (concat pieces)
concat_front zero pieces = omega arith
concat_front (suc n) [] = omega arith
concat_front (suc n) (piece ∷ pieces) = omega (arith, concat_front n pieces, length-append piece (concat (take n pieces)), length-append piece (concat pieces))

pub join_front : (n : ℕ) (pieces : List (List ℕ)) → length (join_with_byte 44 (take n pieces)) ≤ length (join_with_byte 44 pieces)
join_front n pieces = omega (arith, concat_front n pieces, length-join (take n pieces), length-join pieces, length-take n pieces)
