-- Crates above may cite this file: laws of lists alone.
use Rattle.std.proofs.Common.{◌≡◌, ℕ, ◌≤◌, suc, List, [], ◌∷◌, ◌++◌, length, map, filter, filter_map, Bool, true, ◌||◌, Option, None, Some, nat_eq, refl, ap, arith}
use Rattle.std.specs.List.{AllByRecursion, cons_option, list_any, starts_with}
use Rattle.std.proofs.lemmas.Bool.Decides.{Decides-eqb}
use Rattle.std.proofs.lemmas.List.Elements.{All-filter, All-from_recursion, All-weaker, recursion_from_All}
use Rattle.std.proofs.lemmas.List.Sums.{count_by-le-length, length-filter}
use Rattle.std.proofs.lemmas.Slice.Eq.{starts_is}

-- a test of some value of the elements
pub list_any-map : {X Y : Type 0} (p : Y → Bool) (f : X → Y) (xs : List X) → list_any p (map f xs) ≡ list_any (λ x. p (f x)) xs
list_any-map p f [] = refl
list_any-map p f (x ∷ xs) = ap (λ rest. p (f x) || rest) (list_any-map p f xs)

-- what holds of each element, said by recursion
pub AllByRecursion-weaker : {X : Type 0} (P Q : X → Type 0) → ((x : X) → P x → Q x) → (xs : List X) → AllByRecursion P xs → AllByRecursion Q xs
AllByRecursion-weaker P Q f xs all = recursion_from_All Q xs (All-weaker P Q f xs (All-from_recursion P xs all))

pub AllByRecursion-filter : {X : Type 0} (P : X → Type 0) (p : X → Bool) (xs : List X) → AllByRecursion P xs → AllByRecursion P (filter p xs)
AllByRecursion-filter P p xs all = recursion_from_All P (filter p xs) (All-filter p P xs (All-from_recursion P xs all))

-- a filter keeps no more than there are
pub length-filter-le : {X : Type 0} (p : X → Bool) (xs : List X) → length (filter p xs) ≤ length xs
length-filter-le p xs = omega (arith, length-filter p xs, count_by-le-length p xs)

length-cons_option-le : {Y : Type 0} (o : Option Y) (ys : List Y) → length (cons_option o ys) ≤ suc (length ys)
length-cons_option-le None ys = omega arith
length-cons_option-le (Some y) ys = omega arith

pub length-filter_map-le : {X Y : Type 0} (f : X → Option Y) (xs : List X) → length (filter_map f xs) ≤ length xs
length-filter_map-le f [] = omega arith
length-filter_map-le f (x ∷ xs) = omega (arith, length-cons_option-le (f x) (filter_map f xs), length-filter_map-le f xs)

-- bytes begin with what they are made of first
pub starts_with-append : (bytes part rest : List ℕ) → bytes ≡ part ++ rest → starts_with nat_eq bytes part ≡ true
starts_with-append bytes part rest e = (starts_is Decides-eqb bytes part _ refl).1 rest e
