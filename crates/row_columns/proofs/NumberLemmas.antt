-- The numbers from one on.
use Rattle.std.proofs.Common.{◌≡◌, ℕ, zero, suc, ◌+◌, ◌<◌, ◌≤◌, List, ◌++◌, map, refl, ap, ◌∙◌, arith}
use Rattle.std.specs.List.{All, AllByRecursion}
use Rattle.std.proofs.lemmas.List.Elements.{All-from_recursion}
use Rattle.row_columns.specs.Numbers.{numbers_from}

pub from-append : (a n m : ℕ) → numbers_from a n ++ numbers_from (a + n) m ≡ numbers_from a (n + m)
from-append a zero m = let same : a + 0 ≡ a = omega arith in let all : 0 + m ≡ m = omega arith in rw (same, all) refl
from-append a (suc n) m =
    let next : a + suc n ≡ suc a + n = omega arith in
    let more : suc n + m ≡ suc (n + m) = omega arith in
    rw (next, more, from-append (suc a) n m) refl

pub from-map : (k first n : ℕ) → map (λ x. k + x) (numbers_from first n) ≡ numbers_from (k + first) n
from-map k first zero = refl
from-map k first (suc n) = let next : k + suc first ≡ suc (k + first) = omega arith in rw (from-map k (suc first) n, next) refl

-- the first ones after a start
pub from-start : (start count : ℕ) → map (λ row. start + row) (numbers_from 0 count) ≡ numbers_from start count
from-start start count = let same : start + 0 ≡ start = omega arith in from-map start 0 count ∙ ap (λ a. numbers_from a count) same

pub all_from : (start count end : ℕ) → start + count ≤ end → AllByRecursion (λ n. n < end) (numbers_from start count)
all_from start zero end h = tt
all_from start (suc count) end h = (omega (arith, h), all_from (suc start) count end (omega (arith, h)))

pub below_from : (start count end : ℕ) (rows : List ℕ) → rows ≡ numbers_from 0 count → start + count ≤ end → All (λ n. n < end) (map (λ row. start + row) rows)
below_from start count end rows is h =
    rw (is, from-start start count) (All-from_recursion (λ n. n < end) (numbers_from start count) (all_from start count end h))
