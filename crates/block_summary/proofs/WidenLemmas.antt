-- The range of one cell more.
use Rattle.std.proofs.Common.{◌≡◌, ◌⊎◌, inl, inr, ℕ, zero, suc, ◌+◌, Bool, true, false, cond, List, [], ◌∷◌, ◌++◌, length, get_or, Option, None, Some, refl, sym, ap, ◌∙◌, subst, arith}
use Rattle.std.specs.Prelude.{IsTrue, MatchOption}
use Rattle.std.specs.List.{count_by}
use Rattle.std.specs.Cmp.{IsTotalOrder}
use Rattle.std.specs.Ordering.{is_gt, is_le, is_lt, ordering_reverse}
use Rattle.std.specs.declared.cmp.Ordering.{Ordering}
use Rattle.std.specs.declared.cmp.Ordering.TheVariants.{Less, Equal, Greater}
use Rattle.std.proofs.Math.Seq.{get_or-append_seam}
use Rattle.std.proofs.lemmas.Bool.{true≢false}
use Rattle.std.proofs.lemmas.Cmp.{tied_itself, upto}
use Rattle.std.proofs.lemmas.List.Sums.{sum_by-append, sum_by-cons}
use Rattle.cell_types.specs.Laws.{ValuesAreOrdered}
use Rattle.cell_types.specs.Value.{CellValue, null, value_cmp}
use Rattle.block_summary.specs.Laws.{RangesWiden}
use Rattle.block_summary.specs.Ranges.{RangeOf, greater, is_null, lesser, widened, AreAllNull, IsAtMost, IsGreatest, IsLeast, IsRangeOf}

-- ---- one cell more

abbrev more : List CellValue → CellValue → List CellValue
more cells v = cells ++ v ∷ []

cell-cases : (cells : List CellValue) (v : CellValue) (i : ℕ) → (get_or (more cells v) i null ≡ get_or cells i null) ⊎ (get_or (more cells v) i null ≡ v)
cell-cases [] v zero = inr refl
cell-cases [] v (suc i) = inl refl
cell-cases (c ∷ cs) v zero = inl refl
cell-cases (c ∷ cs) v (suc i) = cell-cases cs v i

cell-kept : (cells : List CellValue) (v : CellValue) (i : ℕ) → is_null (get_or cells i null) ≡ false → get_or (more cells v) i null ≡ get_or cells i null
cell-kept [] v i value = absurd (true≢false value)
cell-kept (c ∷ cs) v zero value = refl
cell-kept (c ∷ cs) v (suc i) value = cell-kept cs v i value

null-more : (cells : List CellValue) (i : ℕ) → get_or (more cells null) i null ≡ get_or cells i null
null-more [] zero = refl
null-more [] (suc i) = refl
null-more (c ∷ cs) zero = refl
null-more (c ∷ cs) (suc i) = null-more cs i

-- ---- the least and the greatest cell are the first in an order

pub record IsFirst (Le : CellValue → CellValue → Type 0) (first : CellValue) (cells : List CellValue) : Type 0 where
  pub among : (i : ℕ) × (get_or cells i null ≡ first)
  pub value : is_null first ≡ false
  pub each : (i : ℕ) → is_null (get_or cells i null) ≡ false → Le first (get_or cells i null)

record Order (Le : CellValue → CellValue → Type 0) : Type 0 where
  pub same : (a : CellValue) → Le a a
  pub along : (a b c : CellValue) → Le a b → Le b c → Le a c

each-more : (Le : CellValue → CellValue → Type 0) (first v : CellValue) (cells : List CellValue) → Le first v
    → ((i : ℕ) → is_null (get_or cells i null) ≡ false → Le first (get_or cells i null))
    → (i : ℕ) → (get_or (more cells v) i null ≡ get_or cells i null) ⊎ (get_or (more cells v) i null ≡ v) → is_null (get_or (more cells v) i null) ≡ false
    → Le first (get_or (more cells v) i null)
each-more Le first v cells le each i (inl e) value = subst (Le first) (sym e) (each i (ap is_null (sym e) ∙ value))
each-more Le first v cells le each i (inr e) value = subst (Le first) (sym e) le

first-kept : (Le : CellValue → CellValue → Type 0) (first v : CellValue) (cells : List CellValue) → Le first v → IsFirst Le first cells → IsFirst Le first (more cells v)
first-kept Le first v cells le is = record {
  among = (is.among.0, cell-kept cells v is.among.0 (ap is_null is.among.1 ∙ is.value) ∙ is.among.1);
  value = is.value;
  each = λ i. each-more Le first v cells le is.each i (cell-cases cells v i);
}

first-new : (Le : CellValue → CellValue → Type 0) (v : CellValue) (cells : List CellValue) → Order Le → is_null v ≡ false
    → ((i : ℕ) → is_null (get_or cells i null) ≡ false → Le v (get_or cells i null)) → IsFirst Le v (more cells v)
first-new Le v cells order value each = record {
  among = (length cells, get_or-append_seam cells v [] null);
  value = value;
  each = λ i. each-more Le v v cells (order.same v) each i (cell-cases cells v i);
}

none-before : (Le : CellValue → CellValue → Type 0) (v : CellValue) (cells : List CellValue) → AreAllNull cells → (i : ℕ) → is_null (get_or cells i null) ≡ false → Le v (get_or cells i null)
none-before Le v cells none i value = absurd (true≢false (ap is_null (sym (none i)) ∙ value))

-- ---- the order of values, and its reverse

pub le_of : (r : Ordering) → is_gt r ≡ false → IsTrue (is_le r)
le_of Less e = refl
le_of Equal e = refl
le_of Greater e = absurd (true≢false e)

not_gt : (r : Ordering) → IsTrue (is_le r) → is_gt r ≡ false
not_gt Less h = refl
not_gt Equal h = refl
not_gt Greater h = absurd (true≢false (sym h))

pub reverse_le : (r : Ordering) → is_gt r ≡ true → IsTrue (is_le (ordering_reverse r))
reverse_le Less e = absurd (true≢false (sym e))
reverse_le Equal e = absurd (true≢false (sym e))
reverse_le Greater e = refl

pub le-of_lt : (r : Ordering) → is_lt r ≡ true → IsTrue (is_le r)
le-of_lt Less e = refl
le-of_lt Equal e = refl
le-of_lt Greater e = absurd (true≢false (sym e))

pub reverse-not_lt : (r : Ordering) → is_lt r ≡ false → IsTrue (is_le (ordering_reverse r))
reverse-not_lt Less e = absurd (true≢false e)
reverse-not_lt Equal e = refl
reverse-not_lt Greater e = refl

le_itself : IsTotalOrder value_cmp → (a : CellValue) → IsAtMost a a
le_itself o a = ap is_le (tied_itself o a)

pub le_along : IsTotalOrder value_cmp → (a b c : CellValue) → IsAtMost a b → IsAtMost b c → IsAtMost a c
le_along o a b c p q = le_of (value_cmp a c) (upto o a b c (not_gt (value_cmp a b) p) (not_gt (value_cmp b c) q))

rising : IsTotalOrder value_cmp → Order IsAtMost
rising o = record { same = le_itself o; along = le_along o }

abbrev pub IsAtLeast : CellValue → CellValue → Type 0
IsAtLeast a b = IsAtMost b a

falling : IsTotalOrder value_cmp → Order IsAtLeast
falling o = record { same = le_itself o; along = λ a b c p q. le_along o c b a q p }

pub first-least : (v : CellValue) (cells : List CellValue) → IsFirst IsAtMost v cells → IsLeast v cells
first-least v cells is = record { among = is.among; value = is.value; below = is.each }

pub least-first : (v : CellValue) (cells : List CellValue) → IsLeast v cells → IsFirst IsAtMost v cells
least-first v cells is = record { among = is.among; value = is.value; each = is.below }

pub first-greatest : (v : CellValue) (cells : List CellValue) → IsFirst IsAtLeast v cells → IsGreatest v cells
first-greatest v cells is = record { among = is.among; value = is.value; above = is.each }

pub greatest-first : (v : CellValue) (cells : List CellValue) → IsGreatest v cells → IsFirst IsAtLeast v cells
greatest-first v cells is = record { among = is.among; value = is.value; each = is.above }

least-by : IsTotalOrder value_cmp → (l v : CellValue) (cells : List CellValue) (b : Bool) → is_gt (value_cmp l v) ≡ b → is_null v ≡ false → IsLeast l cells
    → IsLeast (cond b v l) (more cells v)
least-by o l v cells true e value is =
    let lower : IsAtMost v l = subst (λ r. IsTrue (is_le r)) (sym (o.antisymm v l)) (reverse_le (value_cmp l v) e) in
    first-least v (more cells v) (first-new IsAtMost v cells (rising o) value (λ i h. le_along o v l (get_or cells i null) lower (is.below i h)))
least-by o l v cells false e value is =
    first-least l (more cells v) (first-kept IsAtMost l v cells (le_of (value_cmp l v) e) (least-first l cells is))

greatest-by : IsTotalOrder value_cmp → (g v : CellValue) (cells : List CellValue) (b : Bool) → is_lt (value_cmp g v) ≡ b → is_null v ≡ false → IsGreatest g cells
    → IsGreatest (cond b v g) (more cells v)
greatest-by o g v cells true e value is =
    first-greatest v (more cells v) (first-new IsAtLeast v cells (falling o) value
    (λ i h. le_along o (get_or cells i null) g v (is.above i h) (le-of_lt (value_cmp g v) e)))
greatest-by o g v cells false e value is =
    let lower : IsAtMost v g = subst (λ r. IsTrue (is_le r)) (sym (o.antisymm v g)) (reverse-not_lt (value_cmp g v) e) in
    first-greatest g (more cells v) (first-kept IsAtLeast g v cells lower (greatest-first g cells is))

least-more : IsTotalOrder value_cmp → (least : Option CellValue) (v : CellValue) (cells : List CellValue) → is_null v ≡ false
    → MatchOption least (AreAllNull cells) (λ l. IsLeast l cells) → IsLeast (lesser least v) (more cells v)
least-more o None v cells value none = first-least v (more cells v) (first-new IsAtMost v cells (rising o) value (none-before IsAtMost v cells none))
least-more o (Some l) v cells value is = least-by o l v cells (is_gt (value_cmp l v)) refl value is

greatest-more : IsTotalOrder value_cmp → (greatest : Option CellValue) (v : CellValue) (cells : List CellValue) → is_null v ≡ false
    → MatchOption greatest (AreAllNull cells) (λ g. IsGreatest g cells) → IsGreatest (greater greatest v) (more cells v)
greatest-more o None v cells value none = first-greatest v (more cells v) (first-new IsAtLeast v cells (falling o) value (none-before IsAtLeast v cells none))
greatest-more o (Some g) v cells value is = greatest-by o g v cells (is_lt (value_cmp g v)) refl value is

-- ---- a null more

count-more : (cells : List CellValue) (v : CellValue) → count_by is_null (more cells v) ≡ count_by is_null cells + cond (is_null v) 1 0
count-more cells v =
    let parts : count_by is_null (more cells v) ≡ count_by is_null cells + count_by is_null (v ∷ []) = sum_by-append (λ c. cond (is_null c) 1 0) cells (v ∷ []) in
    let last : count_by is_null (v ∷ []) ≡ cond (is_null v) 1 0 + count_by is_null [] = sum_by-cons (λ c. cond (is_null c) 1 0) v [] in
    omega arith

null-least : (least : Option CellValue) (cells : List CellValue) → MatchOption least (AreAllNull cells) (λ l. IsLeast l cells)
    → MatchOption least (AreAllNull (more cells null)) (λ l. IsLeast l (more cells null))
null-least None cells none = λ i. null-more cells i ∙ none i
null-least (Some l) cells is = record {
  among = (is.among.0, null-more cells is.among.0 ∙ is.among.1);
  value = is.value;
  below = λ i h. subst (IsAtMost l) (sym (null-more cells i)) (is.below i (ap is_null (sym (null-more cells i)) ∙ h));
}

null-greatest : (greatest : Option CellValue) (cells : List CellValue) → MatchOption greatest (AreAllNull cells) (λ g. IsGreatest g cells)
    → MatchOption greatest (AreAllNull (more cells null)) (λ g. IsGreatest g (more cells null))
null-greatest None cells none = λ i. null-more cells i ∙ none i
null-greatest (Some g) cells is = record {
  among = (is.among.0, null-more cells is.among.0 ∙ is.among.1);
  value = is.value;
  above = λ i h. subst (IsAtLeast g) (sym (null-more cells i)) (is.above i (ap is_null (sym (null-more cells i)) ∙ h));
}

value-more : IsTotalOrder value_cmp → (range : RangeOf) (cells : List CellValue) (v : CellValue) → is_null v ≡ false → IsRangeOf range cells
    → IsRangeOf (record range { least = Some (lesser range.least v); greatest = Some (greater range.greatest v) }) (more cells v)
value-more o range cells v value is =
    let none : ◌≡◌ {A = ℕ} (cond (is_null v) 1 0) 0 = ap (λ (b : Bool). cond {A = ℕ} b 1 0) value in
    record {
      least = least-more o range.least v cells value is.least;
      greatest = greatest-more o range.greatest v cells value is.greatest;
      null_count = omega (arith, count-more cells v, is.null_count);
    }

widened-more : IsTotalOrder value_cmp → (range : RangeOf) (cells : List CellValue) (v : CellValue) → IsRangeOf range cells → IsRangeOf (widened range v) (more cells v)
widened-more o range cells null is = record {
  least = null-least range.least cells is.least;
  greatest = null-greatest range.greatest cells is.greatest;
  null_count = omega (arith, count-more cells null, is.null_count);
}
widened-more o range cells v is = value-more o range cells v refl is

pub widens : ValuesAreOrdered → RangesWiden
widens laws = record {
  start = record { least = λ i. refl; greatest = λ i. refl; null_count = refl };
  more = widened-more laws.total;
}
