-- One more row of a sum.
use Rattle.std.proofs.Common.{◌≡◌, ℕ, ◌+◌, ◌*◌, ◌<◌, ◌≤◌, Bool, true, false, cond, List, [], ◌∷◌, ◌++◌, length, take, get_or, Option, None, Some, refl, sym, ap, ◌∙◌, subst, arith}
use Rattle.std.specs.Prelude.{ℤ, pos, negsuc, ◌+ℤ◌, ◌≤ℤ◌, FitsSigned}
use Rattle.std.specs.Int.{w128}
use Rattle.std.proofs.lemmas.Int.{ints}
use Rattle.std.proofs.lemmas.List.{take_more, take_all}
use Rattle.block_summary.specs.Cells.{number_or_null, cells_of}
use Rattle.block_summary.specs.Sums.{number_sum}
use Rattle.block_summary.proofs.CellLemmas.{cells_of-at, length-cells_of}

-- the sum of the first rows, of which each number has 64 bits
pub record IsTotalTo (n : ℕ) (sum : ℤ) (nulls : List Bool) (values : List ℤ) : Type 0 where
  pub is : sum ≡ number_sum (take n (cells_of nulls values))
  pub low : pos 0 ≤ℤ (sum +ℤ pos (n * 9_223_372_036_854_775_808))
  pub high : sum ≤ℤ pos (n * 9_223_372_036_854_775_808)

abbrev one : Option ℤ → ℤ
one None = pos 0
one (Some z) = z

sum-push : (ns : List (Option ℤ)) (n : Option ℤ) → number_sum (ns ++ n ∷ []) ≡ number_sum ns +ℤ one n
sum-push [] None = refl
sum-push [] (Some z) = omega (arith, ints)
sum-push (None ∷ ns) n = sum-push ns n
sum-push (Some m ∷ ns) n =
    let rest = sum-push ns n in
    ap (λ z. m +ℤ z) rest ∙ omega (arith, ints)

one-cell : (b : Bool) (z : ℤ) → cond b (pos 0) z ≡ one (number_or_null b z)
one-cell true z = refl
one-cell false z = refl

cond-low : (b : Bool) (z : ℤ) → negsuc 9_223_372_036_854_775_807 ≤ℤ z → negsuc 9_223_372_036_854_775_807 ≤ℤ cond b (pos 0) z
cond-low true z h = omega (arith, ints)
cond-low false z h = h

cond-high : (b : Bool) (z : ℤ) → z ≤ℤ pos 9_223_372_036_854_775_807 → cond b (pos 0) z ≤ℤ pos 9_223_372_036_854_775_807
cond-high true z h = omega (arith, ints)
cond-high false z h = h

pub total-more : (n : ℕ) (sum v s : ℤ) (nulls : List Bool) (values : List ℤ) → n < length values
    → negsuc 9_223_372_036_854_775_807 ≤ℤ get_or values n (pos 0) → get_or values n (pos 0) ≤ℤ pos 9_223_372_036_854_775_807
    → v ≡ cond (get_or nulls n false) (pos 0) (get_or values n (pos 0)) → s ≡ sum +ℤ v → IsTotalTo n sum nulls values → IsTotalTo (n + 1) s nulls values
total-more n sum v s nulls values h low high e f so_far =
    let cells = cells_of nulls values in
    let inside : n < length cells = omega (arith, h, length-cells_of nulls values) in
    let number : v ≡ one (get_or cells n None) = e ∙ one-cell (get_or nulls n false) (get_or values n (pos 0)) ∙ ap one (sym (cells_of-at nulls values n h)) in
    let least = subst (λ z. negsuc 9_223_372_036_854_775_807 ≤ℤ z) (sym e) (cond-low (get_or nulls n false) (get_or values n (pos 0)) low) in
    let most = subst (λ z. z ≤ℤ pos 9_223_372_036_854_775_807) (sym e) (cond-high (get_or nulls n false) (get_or values n (pos 0)) high) in
    record {
      is = f ∙ ap (λ z. z +ℤ v) so_far.is ∙ ap (λ z. number_sum (take n cells) +ℤ z) number
          ∙ sym (sum-push (take n cells) (get_or cells n None)) ∙ ap number_sum (sym (take_more cells n None inside));
      low = omega (arith, ints, f, so_far.low, least);
      high = omega (arith, ints, f, so_far.high, most);
    }

-- a number that is not far from nought has 128 bits
pub fits-wide : (z : ℤ) → pos 0 ≤ℤ (z +ℤ pos 85_070_591_730_234_615_865_843_651_857_942_052_864) → z ≤ℤ pos 85_070_591_730_234_615_865_843_651_857_942_052_864 → FitsSigned w128 z
fits-wide (pos z) low high = record { sfits = omega (arith, ints, high) }
fits-wide (negsuc z) low high = record { sfits = omega (arith, ints, low) }

pub total-all : (n : ℕ) (sum : ℤ) (nulls : List Bool) (values : List ℤ) → length values ≤ n → IsTotalTo n sum nulls values → sum ≡ number_sum (cells_of nulls values)
total-all n sum nulls values h so_far =
    so_far.is ∙ ap number_sum (take_all n (cells_of nulls values) (omega (arith, h, length-cells_of nulls values)))
