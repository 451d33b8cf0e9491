-- The range of cells and of others after them.
use Rattle.std.proofs.Common.{◌≡◌, ◌⊎◌, inl, inr, ℕ, zero, suc, ◌+◌, Bool, IsTrue, true, false, cond, List, [], ◌∷◌, ◌++◌, length, get_or, get_or-append-add, Option, None, Some, refl, sym, ap, ap₂, ◌∙◌, subst}
use Rattle.std.specs.Cmp.{IsTotalOrder}
use Rattle.std.specs.Ordering.{is_gt, is_le, is_lt}
use Rattle.std.proofs.lemmas.Bool.{true≢false}
use Rattle.std.proofs.lemmas.List.Sums.{sum_by-append}
use Rattle.cell_types.specs.Laws.{ValuesAreOrdered}
use Rattle.cell_types.specs.Value.{CellValue, null, value_cmp}
use Rattle.block_summary.specs.Laws.{RangesJoin}
use Rattle.block_summary.specs.Ranges.{greater_of, is_null, lesser_of, AreAllNull, HasGreatest, HasLeast, IsAtMost, IsGreatest, IsLeast}
use Rattle.block_summary.proofs.WidenLemmas.{first-greatest, first-least, greatest-first, le-of_lt, le_along, le_of, least-first, reverse-not_lt, reverse_le, IsAtLeast, IsFirst}

-- ---- where the cells of both are

from-both : (xs ys : List CellValue) (i : ℕ)
    → (get_or (xs ++ ys) i null ≡ get_or xs i null) ⊎ ((j : ℕ) × (get_or (xs ++ ys) i null ≡ get_or ys j null))
from-both [] ys i = inr (i, refl)
from-both (x ∷ xs) ys zero = inl refl
from-both (x ∷ xs) ys (suc i) = from-both xs ys i

in-front : (xs ys : List CellValue) (i : ℕ) → is_null (get_or xs i null) ≡ false → get_or (xs ++ ys) i null ≡ get_or xs i null
in-front [] ys i value = absurd (true≢false value)
in-front (x ∷ xs) ys zero value = refl
in-front (x ∷ xs) ys (suc i) value = in-front xs ys i value

-- ---- the first in an order

abbrev EachIs : (CellValue → CellValue → Type 0) → CellValue → List CellValue → Type 0
EachIs Le first cells = (i : ℕ) → is_null (get_or cells i null) ≡ false → Le first (get_or cells i null)

each-of_both : (Le : CellValue → CellValue → Type 0) (first : CellValue) (xs ys : List CellValue) → EachIs Le first xs → EachIs Le first ys → (i : ℕ)
    → (get_or (xs ++ ys) i null ≡ get_or xs i null) ⊎ ((j : ℕ) × (get_or (xs ++ ys) i null ≡ get_or ys j null))
    → is_null (get_or (xs ++ ys) i null) ≡ false → Le first (get_or (xs ++ ys) i null)
each-of_both Le first xs ys p q i (inl e) value = subst (Le first) (sym e) (p i (ap is_null (sym e) ∙ value))
each-of_both Le first xs ys p q i (inr e) value = subst (Le first) (sym e.1) (q e.0 (ap is_null (sym e.1) ∙ value))

front-is : (Le : CellValue → CellValue → Type 0) (first : CellValue) (xs ys : List CellValue) → IsFirst Le first xs → EachIs Le first ys → IsFirst Le first (xs ++ ys)
front-is Le first xs ys is each = record {
  among = (is.among.0, in-front xs ys is.among.0 (ap is_null is.among.1 ∙ is.value) ∙ is.among.1);
  value = is.value;
  each = λ i. each-of_both Le first xs ys is.each each i (from-both xs ys i);
}

behind-is : (Le : CellValue → CellValue → Type 0) (first : CellValue) (xs ys : List CellValue) → EachIs Le first xs → IsFirst Le first ys → IsFirst Le first (xs ++ ys)
behind-is Le first xs ys each is = record {
  among = (length xs + is.among.0, get_or-append-add xs ys is.among.0 null ∙ is.among.1);
  value = is.value;
  each = λ i. each-of_both Le first xs ys each is.each i (from-both xs ys i);
}

none-there : (Le : CellValue → CellValue → Type 0) (first : CellValue) (cells : List CellValue) → AreAllNull cells → EachIs Le first cells
none-there Le first cells none i value = absurd (true≢false (ap is_null (sym (none i)) ∙ value))

-- ---- the least

least-by : IsTotalOrder value_cmp → (a b : CellValue) (xs ys : List CellValue) (is_greater : Bool) → is_gt (value_cmp a b) ≡ is_greater
    → IsLeast a xs → IsLeast b ys → IsLeast (cond is_greater b a) (xs ++ ys)
least-by o a b xs ys true e p q =
    let lower : IsAtMost b a = subst (λ r. IsTrue (is_le r)) (sym (o.antisymm b a)) (reverse_le (value_cmp a b) e) in
    first-least b (xs ++ ys) (behind-is IsAtMost b xs ys (λ i h. le_along o b a (get_or xs i null) lower (p.below i h)) (least-first b ys q))
least-by o a b xs ys false e p q =
    first-least a (xs ++ ys)
    (front-is IsAtMost a xs ys (least-first a xs p) (λ i h. le_along o a b (get_or ys i null) (le_of (value_cmp a b) e) (q.below i h)))

all-null : (xs ys : List CellValue) → AreAllNull xs → AreAllNull ys → (i : ℕ)
    → (get_or (xs ++ ys) i null ≡ get_or xs i null) ⊎ ((j : ℕ) × (get_or (xs ++ ys) i null ≡ get_or ys j null)) → get_or (xs ++ ys) i null ≡ null
all-null xs ys p q i (inl e) = e ∙ p i
all-null xs ys p q i (inr e) = e.1 ∙ q e.0

least-joins : IsTotalOrder value_cmp → (a b : Option CellValue) (xs ys : List CellValue) → HasLeast a xs → HasLeast b ys → HasLeast (lesser_of a b) (xs ++ ys)
least-joins o None None xs ys p q = λ i. all-null xs ys p q i (from-both xs ys i)
least-joins o (Some a) None xs ys p q = first-least a (xs ++ ys) (front-is IsAtMost a xs ys (least-first a xs p) (none-there IsAtMost a ys q))
least-joins o None (Some b) xs ys p q = first-least b (xs ++ ys) (behind-is IsAtMost b xs ys (none-there IsAtMost b xs p) (least-first b ys q))
least-joins o (Some a) (Some b) xs ys p q = least-by o a b xs ys (is_gt (value_cmp a b)) refl p q

-- ---- the greatest

greatest-by : IsTotalOrder value_cmp → (a b : CellValue) (xs ys : List CellValue) (is_less : Bool) → is_lt (value_cmp a b) ≡ is_less
    → IsGreatest a xs → IsGreatest b ys → IsGreatest (cond is_less b a) (xs ++ ys)
greatest-by o a b xs ys true e p q =
    first-greatest b (xs ++ ys)
    (behind-is IsAtLeast b xs ys (λ i h. le_along o (get_or xs i null) a b (p.above i h) (le-of_lt (value_cmp a b) e)) (greatest-first b ys q))
greatest-by o a b xs ys false e p q =
    let lower : IsAtMost b a = subst (λ r. IsTrue (is_le r)) (sym (o.antisymm b a)) (reverse-not_lt (value_cmp a b) e) in
    first-greatest a (xs ++ ys) (front-is IsAtLeast a xs ys (greatest-first a xs p) (λ i h. le_along o (get_or ys i null) b a (q.above i h) lower))

greatest-joins : IsTotalOrder value_cmp → (a b : Option CellValue) (xs ys : List CellValue) → HasGreatest a xs → HasGreatest b ys
    → HasGreatest (greater_of a b) (xs ++ ys)
greatest-joins o None None xs ys p q = λ i. all-null xs ys p q i (from-both xs ys i)
greatest-joins o (Some a) None xs ys p q = first-greatest a (xs ++ ys) (front-is IsAtLeast a xs ys (greatest-first a xs p) (none-there IsAtLeast a ys q))
greatest-joins o None (Some b) xs ys p q = first-greatest b (xs ++ ys) (behind-is IsAtLeast b xs ys (none-there IsAtLeast b xs p) (greatest-first b ys q))
greatest-joins o (Some a) (Some b) xs ys p q = greatest-by o a b xs ys (is_lt (value_cmp a b)) refl p q

pub joins : ValuesAreOrdered → RangesJoin
joins laws a b xs ys p q = record {
  least = least-joins laws.total a.least b.least xs ys p.least q.least;
  greatest = greatest-joins laws.total a.greatest b.greatest xs ys p.greatest q.greatest;
  null_count = ap₂ (λ (m n : ℕ). m + n) p.null_count q.null_count ∙ sym (sum_by-append (λ c. cond (is_null c) 1 0) xs ys);
}
