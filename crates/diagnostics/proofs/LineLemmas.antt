-- Lines that do not have a front are passed, and the first that has it is taken out.
use Rattle.std.proofs.Common.{◌≡◌, ◌∙◌, ◌+◌, ◌++◌, ◌<◌, ℕ, suc, List, [], ◌∷◌, Global, Some, String, string_bytes, true, false, add-one, ap, ap₂, append_assoc, drop, drop-cons, get_or, if◌then◌else◌, length, map, nat_eq, sym, take}
use Rattle.std.proofs.Math.ListN.{get_or-map}
use Rattle.std.proofs.lemmas.List.{drop-map, length-map, map-append, take-map, take_more}
use Rattle.std.specs.List.{starts_with}
use Rattle.diagnostics.specs.Refusal.{first_with, without_first}

-- a line among texts, of which the same is known under another name
pub text-at : (items seen : List (String Global)) (n : ℕ) (line : String Global) → seen ≡ items → n < length seen → line ≡ get_or seen n line
    → (n < length (map string_bytes items)) × (string_bytes line ≡ get_or (map string_bytes items) n (string_bytes line))
text-at items seen n line same less at =
    let within : n < length (map string_bytes seen) = rw (length-map seen string_bytes) less in
    let here : string_bytes line ≡ get_or (map string_bytes seen) n (string_bytes line) = ap string_bytes at ∙ sym (get_or-map string_bytes seen n line) in
    rw (← same) (within, here)

-- the lines from a place on begin with the one that is there
lines_at : (lines : List (List ℕ)) (n : ℕ) (line : List ℕ) → n < length lines → line ≡ get_or lines n line → drop n lines ≡ line ∷ drop (n + 1) lines
lines_at lines n line less at = rw add-one (drop-cons lines n line less ∙ ap (λ (x : List ℕ). x ∷ drop (suc n) lines) (sym at))

-- a line that does not have the front
pub first-passed : (front : List ℕ) (lines : List (List ℕ)) (n : ℕ) (line : List ℕ) → n < length lines → line ≡ get_or lines n line
    → starts_with nat_eq line front ≡ false → first_with front lines ≡ first_with front (drop n lines)
    → first_with front lines ≡ first_with front (drop (n + 1) lines)
first-passed front lines n line less at lacks before =
    before ∙ ap (first_with front) (lines_at lines n line less at)
    ∙ ap (λ b. if b then Some line else first_with front (drop (n + 1) lines)) lacks

pub others-passed : (front : List ℕ) (lines : List (List ℕ)) (n : ℕ) (line : List ℕ) → n < length lines → line ≡ get_or lines n line
    → starts_with nat_eq line front ≡ false → without_first front lines ≡ take n lines ++ without_first front (drop n lines)
    → without_first front lines ≡ take (n + 1) lines ++ without_first front (drop (n + 1) lines)
others-passed front lines n line less at lacks before =
    let rest = without_first front (drop (n + 1) lines) in
    let more : take (n + 1) lines ≡ take n lines ++ line ∷ [] = take_more lines n line less ∙ ap (λ (x : List ℕ). take n lines ++ x ∷ []) (sym at) in
    before ∙ ap (λ (xs : List (List ℕ)). take n lines ++ without_first front xs) (lines_at lines n line less at)
    ∙ ap (λ b. take n lines ++ (if b then drop (n + 1) lines else line ∷ rest)) lacks
    ∙ sym (append_assoc (take n lines) (line ∷ []) rest)
    ∙ ap (λ (xs : List (List ℕ)). xs ++ rest) (sym more)

-- a line that has it
pub first-found : (front : List ℕ) (lines : List (List ℕ)) (n : ℕ) (line : List ℕ) → n < length lines → line ≡ get_or lines n line
    → starts_with nat_eq line front ≡ true → first_with front lines ≡ first_with front (drop n lines) → first_with front lines ≡ Some line
first-found front lines n line less at has before =
    before ∙ ap (first_with front) (lines_at lines n line less at)
    ∙ ap (λ b. if b then Some line else first_with front (drop (n + 1) lines)) has

pub others-found : (front : List ℕ) (lines : List (List ℕ)) (n : ℕ) (line : List ℕ) → n < length lines → line ≡ get_or lines n line
    → starts_with nat_eq line front ≡ true → without_first front lines ≡ take n lines ++ without_first front (drop n lines)
    → without_first front lines ≡ take n lines ++ drop (n + 1) lines
others-found front lines n line less at has before =
    before ∙ ap (λ (xs : List (List ℕ)). take n lines ++ without_first front xs) (lines_at lines n line less at)
    ∙ ap (λ b. take n lines ++ (if b then drop (n + 1) lines else line ∷ without_first front (drop (n + 1) lines))) has

-- what is taken out of texts is taken out of what they are seen as
pub removed : {A B : Type 0} (f : A → B) (xs : List A) (n : ℕ) → map f (take n xs ++ drop (suc n) xs) ≡ take n (map f xs) ++ drop (n + 1) (map f xs)
removed {A} {B} f xs n =
    rw add-one (map-append f (take n xs) (drop (suc n) xs) ∙ ap₂ (λ (a b : List B). a ++ b) (sym (take-map f n xs)) (sym (drop-map f (suc n) xs)))
