-- A column that is not admitted has no cell that passes the test.
use Rattle.std.proofs.Common.{◌≡◌, ℕ, zero, suc, ◌+◌, ◌<◌, Bool, true, false, cond, not, ◌&&◌, ◌||◌, List, [], ◌∷◌, length, get_or, Option, None, Some, refl, sym, ap, ◌∙◌, subst, arith}
use Rattle.std.specs.Prelude.{IsTrue, is_some, MatchOption}
use Rattle.std.specs.List.{count_by}
use Rattle.std.specs.Cmp.{IsTotalOrder}
use Rattle.std.specs.Ordering.{is_eq, is_ne, is_lt, is_gt, is_le, is_ge, is_some_and, ordering_reverse}
use Rattle.std.specs.declared.cmp.Ordering.{Ordering}
use Rattle.std.specs.declared.cmp.Ordering.TheVariants.{Less, Equal, Greater}
use Rattle.std.proofs.lemmas.Bool.{true≢false, and_from, lt-ltb}
use Rattle.std.proofs.lemmas.Cmp.{alike_right, tied_itself}
use Rattle.std.proofs.lemmas.List.Sums.{sum_by-cons}
use Rattle.std.specs.BTreeMap.Comparable.{le_lt_trans}
use Rattle.cell_types.specs.Laws.{ValuesAreOrdered}
use Rattle.cell_types.specs.Value.{CellValue, null, value_cmp}
use Rattle.cell_types.specs.declared.comparison.ComparisonOperator.{ComparisonOperator}
use Rattle.cell_types.specs.declared.comparison.ComparisonOperator.TheVariants as op
use Rattle.block_summary.specs.Laws.{SkipsNoRow}
use Rattle.std.proofs.lemmas.List.{get_or-map, length-map}
use Rattle.block_summary.specs.Ranges.{RangeOf, column_of, no_range, is_null, AreAllNull, IsAtMost, IsGreatest, IsLeast, IsRangeOf}
use Rattle.block_summary.specs.Tests.{admits, admits_null, admits_value, counts_nulls, order_to, test_passes}

-- ---- three orders: of a cell, the least and the greatest to a literal

abbrev Low : Ordering → Ordering → Type 0
Low Less x = x ≡ Less
Low Equal x = IsTrue (is_le x)
Low Greater x = Unit {0}

abbrev High : Ordering → Ordering → Type 0
High Less y = Unit {0}
High Equal y = IsTrue (is_ge y)
High Greater y = y ≡ Greater

abbrev passes_by : ComparisonOperator → Ordering → Bool
passes_by op.Equal w = is_eq w
passes_by op.NotEqual w = not (is_eq w)
passes_by op.GreaterThan w = is_gt w
passes_by op.GreaterOrEqual w = is_gt w || is_eq w
passes_by op.LessThan w = is_lt w
passes_by op.LessOrEqual w = is_lt w || is_eq w

abbrev admits_by : ComparisonOperator → Ordering → Ordering → Bool
admits_by op.Equal x y = is_le x && is_ge y
admits_by op.NotEqual x y = is_ne x || is_ne y
admits_by op.GreaterThan x y = is_gt y
admits_by op.GreaterOrEqual x y = is_ge y
admits_by op.LessThan x y = is_lt x
admits_by op.LessOrEqual x y = is_le x

by_orders : (o : ComparisonOperator) (w x y : Ordering) → Low w x → High w y → admits_by o x y ≡ false → passes_by o w ≡ false
by_orders op.Equal Less x y low high none = refl
by_orders op.Equal Equal x y low high none = absurd (true≢false (sym (and_from (is_le x) (is_ge y) low high) ∙ none))
by_orders op.Equal Greater x y low high none = refl
by_orders op.NotEqual Less x y low high none = absurd (true≢false (ap (λ r. is_ne r || is_ne y) (sym low) ∙ none))
by_orders op.NotEqual Equal x y low high none = refl
by_orders op.NotEqual Greater Less y low high none = absurd (true≢false none)
by_orders op.NotEqual Greater Equal y low high none = absurd (true≢false (ap is_ne (sym high) ∙ none))
by_orders op.NotEqual Greater Greater y low high none = absurd (true≢false none)
by_orders op.GreaterThan Less x y low high none = refl
by_orders op.GreaterThan Equal x y low high none = refl
by_orders op.GreaterThan Greater x y low high none = absurd (true≢false (ap is_gt (sym high) ∙ none))
by_orders op.GreaterOrEqual Less x y low high none = refl
by_orders op.GreaterOrEqual Equal x y low high none = absurd (true≢false (sym high ∙ none))
by_orders op.GreaterOrEqual Greater x y low high none = absurd (true≢false (ap is_ge (sym high) ∙ none))
by_orders op.LessThan Less x y low high none = absurd (true≢false (ap is_lt (sym low) ∙ none))
by_orders op.LessThan Equal x y low high none = refl
by_orders op.LessThan Greater x y low high none = refl
by_orders op.LessOrEqual Less x y low high none = absurd (true≢false (ap is_le (sym low) ∙ none))
by_orders op.LessOrEqual Equal x y low high none = absurd (true≢false (sym low ∙ none))
by_orders op.LessOrEqual Greater x y low high none = refl

le_reverse : (r : Ordering) → IsTrue (is_le r) → IsTrue (is_ge (ordering_reverse r))
le_reverse Less h = refl
le_reverse Equal h = refl
le_reverse Greater h = absurd (true≢false (sym h))

low_of : IsTotalOrder value_cmp → (l c v : CellValue) → IsAtMost l c → (w : Ordering) → value_cmp c v ≡ w → Low w (value_cmp l v)
low_of o l c v le Less e = le_lt_trans o l c v le e
low_of o l c v le Equal e = subst (λ r. IsTrue (is_le r)) (alike_right o c v l e) le
low_of o l c v le Greater e = tt

above : IsTotalOrder value_cmp → (c g v : CellValue) → value_cmp v c ≡ Less → (r : Ordering) → value_cmp c g ≡ r → IsTrue (is_le r) → value_cmp v g ≡ Less
above o c g v lt Less e le = o.trans v c g lt e
above o c g v lt Equal e le = sym (alike_right o c g v e) ∙ lt
above o c g v lt Greater e le = absurd (true≢false (sym le))

high_of : IsTotalOrder value_cmp → (c g v : CellValue) → IsAtMost c g → (w : Ordering) → value_cmp c v ≡ w → High w (value_cmp g v)
high_of o c g v le Less e = tt
high_of o c g v le Equal e =
    subst (λ r. IsTrue (is_ge r)) (alike_right o c v g e) (subst (λ r. IsTrue (is_ge r)) (sym (o.antisymm g c)) (le_reverse (value_cmp c g) le))
high_of o c g v le Greater e =
    o.antisymm g v ∙ ap ordering_reverse (above o c g v (o.antisymm v c ∙ ap ordering_reverse e) (value_cmp c g) refl le)

-- ---- a cell that is no null

-- the least and the greatest cell, and a cell between them
record Between (range : RangeOf) (c : CellValue) : Type 0 where
  pub low : CellValue
  pub high : CellValue
  pub low_is : range.least ≡ Some low
  pub high_is : range.greatest ≡ Some high
  pub above_low : IsAtMost low c
  pub below_high : IsAtMost c high

between : (range : RangeOf) (cells : List CellValue) (i : ℕ) (least greatest : Option CellValue) → range.least ≡ least → range.greatest ≡ greatest
    → MatchOption least (AreAllNull cells) (λ l. IsLeast l cells) → MatchOption greatest (AreAllNull cells) (λ g. IsGreatest g cells)
    → is_null (get_or cells i null) ≡ false → Between range (get_or cells i null)
between range cells i None greatest e f none h value = absurd (true≢false (ap is_null (sym (none i)) ∙ value))
between range cells i (Some l) None e f low none value = absurd (true≢false (ap is_null (sym (none i)) ∙ value))
between range cells i (Some l) (Some g) e f low high value = record {
  low = l;
  high = g;
  low_is = e;
  high_is = f;
  above_low = low.below i value;
  below_high = high.above i value;
}

passes-value : (o : ComparisonOperator) (c v : CellValue) → is_null c ≡ false → is_null v ≡ false → test_passes o c v ≡ passes_by o (value_cmp c v)
passes-value op.Equal c v e f = refl
passes-value op.NotEqual c v e f = refl
passes-value op.GreaterThan c v e f = rw (e, f) refl
passes-value op.GreaterOrEqual c v e f = rw (e, f) refl
passes-value op.LessThan c v e f = rw (e, f) refl
passes-value op.LessOrEqual c v e f = rw (e, f) refl

or_tail : (a b c : Bool) → (a || b || c) ≡ false → (b || c) ≡ false
or_tail true b c e = absurd (true≢false e)
or_tail false b c e = e

admits-value : (o : ComparisonOperator) (range : RangeOf) (v l g : CellValue) → range.least ≡ Some l → range.greatest ≡ Some g → admits_value o range v ≡ false
    → admits_by o (value_cmp l v) (value_cmp g v) ≡ false
admits-value op.Equal range v l g e f none =
    ap (λ o. is_some_and is_le (order_to o v) && is_some_and is_ge (order_to (Some g) v)) (sym e)
    ∙ ap (λ o. is_some_and is_le (order_to range.least v) && is_some_and is_ge (order_to o v)) (sym f)
    ∙ none
admits-value op.NotEqual range v l g e f none =
    ap (λ o. is_some_and is_ne (order_to o v) || is_some_and is_ne (order_to (Some g) v)) (sym e)
    ∙ ap (λ o. is_some_and is_ne (order_to range.least v) || is_some_and is_ne (order_to o v)) (sym f)
    ∙ or_tail (counts_nulls range) (is_some_and is_ne (order_to range.least v)) (is_some_and is_ne (order_to range.greatest v)) none
admits-value op.GreaterThan range v l g e f none = ap (λ o. is_some_and is_gt (order_to o v)) (sym f) ∙ none
admits-value op.GreaterOrEqual range v l g e f none = ap (λ o. is_some_and is_ge (order_to o v)) (sym f) ∙ none
admits-value op.LessThan range v l g e f none = ap (λ o. is_some_and is_lt (order_to o v)) (sym e) ∙ none
admits-value op.LessOrEqual range v l g e f none = ap (λ o. is_some_and is_le (order_to o v)) (sym e) ∙ none

-- ---- nulls

null-is : (c : CellValue) → is_null c ≡ true → c ≡ null
null-is null e = refl
null-is _ e = absurd (true≢false (sym e))

one_of : (b : Bool) → b ≡ true → ◌≡◌ {A = ℕ} (cond b 1 0) 1
one_of true e = refl
one_of false e = absurd (true≢false (sym e))

counted : (p : CellValue → Bool) (cells : List CellValue) (i : ℕ) → i < length cells → p (get_or cells i null) ≡ true → 0 < count_by p cells
counted p [] i lt e = absurd (omega arith)
counted p (c ∷ cs) zero lt e =
    let more : count_by p (c ∷ cs) ≡ cond (p c) 1 0 + count_by p cs = sum_by-cons (λ x. cond (p x) 1 0) c cs in
    omega (arith, one_of (p c) e)
counted p (c ∷ cs) (suc i) lt e =
    let more : count_by p (c ∷ cs) ≡ cond (p c) 1 0 + count_by p cs = sum_by-cons (λ x. cond (p x) 1 0) c cs in
    omega (arith, counted p cs i (omega arith) e)

has-null : (range : RangeOf) (cells : List CellValue) (i : ℕ) → IsRangeOf range cells → i < length cells → is_null (get_or cells i null) ≡ true → counts_nulls range ≡ true
has-null range cells i is lt e = lt-ltb 0 range.null_count (omega (arith, is.null_count, counted is_null cells i lt e))

null-value : (o : ComparisonOperator) (range : RangeOf) (v : CellValue) → value_cmp null v ≡ Less → counts_nulls range ≡ true → admits_value o range v ≡ false → test_passes o null v ≡ false
null-value op.Equal range v less has none = ap is_eq less
null-value op.NotEqual range v less has none =
    absurd (true≢false (ap (λ b. b || is_some_and is_ne (order_to range.least v) || is_some_and is_ne (order_to range.greatest v)) (sym has) ∙ none))
null-value op.GreaterThan range v less has none = refl
null-value op.GreaterOrEqual range v less has none = ap is_eq less
null-value op.LessThan range v less has none = refl
null-value op.LessOrEqual range v less has none = ap is_eq less

value-is : (c : CellValue) → is_null c ≡ false → c ≡ null → ⊥
value-is c value e = true≢false (ap is_null (sym e) ∙ value)

-- ---- a comparison with null

null-null : (o : ComparisonOperator) (range : RangeOf) → value_cmp null null ≡ Equal → counts_nulls range ≡ true → admits_null o range ≡ false → test_passes o null null ≡ false
null-null op.Equal range same has none = absurd (true≢false (sym has ∙ none))
null-null op.NotEqual range same has none = ap (λ r. not (is_eq r)) same
null-null op.GreaterThan range same has none = refl
null-null op.GreaterOrEqual range same has none = absurd (true≢false (sym has ∙ none))
null-null op.LessThan range same has none = refl
null-null op.LessOrEqual range same has none = absurd (true≢false (sym has ∙ none))

value-null : (o : ComparisonOperator) (range : RangeOf) (c l : CellValue) → value_cmp c null ≡ Greater → is_null c ≡ false → range.least ≡ Some l → admits_null o range ≡ false
    → test_passes o c null ≡ false
value-null op.Equal range c l more value least none = ap is_eq more
value-null op.NotEqual range c l more value least none = absurd (true≢false (ap is_some (sym least) ∙ none))
value-null op.GreaterThan range c l more value least none = rw value refl
value-null op.GreaterOrEqual range c l more value least none = rw (value, more) refl
value-null op.LessThan range c l more value least none = rw value refl
value-null op.LessOrEqual range c l more value least none = rw (value, more) refl

-- ---- any cell, any literal

record Column (range : RangeOf) (cells : List CellValue) (i : ℕ) : Type 0 where
  pub is : IsRangeOf range cells
  pub lt : i < length cells

between_of : (range : RangeOf) (cells : List CellValue) (i : ℕ) → Column range cells i → is_null (get_or cells i null) ≡ false → Between range (get_or cells i null)
between_of range cells i column value = between range cells i range.least range.greatest refl refl column.is.least column.is.greatest value

to_null : ValuesAreOrdered → (o : ComparisonOperator) (range : RangeOf) (cells : List CellValue) (i : ℕ) (b : Bool) → is_null (get_or cells i null) ≡ b → Column range cells i
    → admits_null o range ≡ false → test_passes o (get_or cells i null) null ≡ false
to_null laws o range cells i true is_null_cell column none =
    subst (λ c. test_passes o c null ≡ false) (sym (null-is (get_or cells i null) is_null_cell))
    (null-null o range (tied_itself laws.total null) (has-null range cells i column.is column.lt is_null_cell) none)
to_null laws o range cells i false value column none =
    let c = get_or cells i null in
    let more : value_cmp c null ≡ Greater = laws.total.antisymm c null ∙ ap ordering_reverse (laws.null_first c (value-is c value)) in
    let found = between_of range cells i column value in
    value-null o range c found.low more value found.low_is none

to_value : ValuesAreOrdered → (o : ComparisonOperator) (range : RangeOf) (cells : List CellValue) (v : CellValue) (i : ℕ) (b : Bool) → is_null (get_or cells i null) ≡ b
    → Column range cells i → is_null v ≡ false → admits_value o range v ≡ false → test_passes o (get_or cells i null) v ≡ false
to_value laws o range cells v i true is_null_cell column literal none =
    subst (λ c. test_passes o c v ≡ false) (sym (null-is (get_or cells i null) is_null_cell))
    (null-value o range v (laws.null_first v (value-is v literal)) (has-null range cells i column.is column.lt is_null_cell) none)
to_value laws o range cells v i false value column literal none =
    let c = get_or cells i null in
    let found = between_of range cells i column value in
    passes-value o c v value literal
    ∙ by_orders o (value_cmp c v) (value_cmp found.low v) (value_cmp found.high v)
    (low_of laws.total found.low c v found.above_low (value_cmp c v) refl)
    (high_of laws.total c found.high v found.below_high (value_cmp c v) refl)
    (admits-value o range v found.low found.high found.low_is found.high_is none)

by_literal : ValuesAreOrdered → (o : ComparisonOperator) (range : RangeOf) (cells : List CellValue) (v : CellValue) (i : ℕ) (b : Bool) → is_null v ≡ b → Column range cells i
    → admits o range v ≡ false → test_passes o (get_or cells i null) v ≡ false
by_literal laws o range cells v i true literal column none =
    subst (λ v. test_passes o (get_or cells i null) v ≡ false) (sym (null-is v literal))
    (to_null laws o range cells i (is_null (get_or cells i null)) refl column
    (ap (λ b. cond b (admits_null o range) (admits_value o range v)) (sym literal) ∙ none))
by_literal laws o range cells v i false literal column none =
    to_value laws o range cells v i (is_null (get_or cells i null)) refl column literal
    (ap (λ b. cond b (admits_null o range) (admits_value o range v)) (sym literal) ∙ none)

pub skips : ValuesAreOrdered → (o : ComparisonOperator) (range : RangeOf) (cells : List CellValue) (v : CellValue) → IsRangeOf range cells
    → admits o range v ≡ false → (i : ℕ) → i < length cells → test_passes o (get_or cells i null) v ≡ false
skips laws o range cells v is none i lt = by_literal laws o range cells v i (is_null v) refl (record { is = is; lt = lt }) none

-- ---- rows

pub skips-rows : ValuesAreOrdered → SkipsNoRow
skips-rows laws o ranges rows col v are inside none i lt =
    let at : get_or (column_of rows col) i null ≡ get_or (get_or rows i []) col null = get_or-map (λ row. get_or row col null) rows i [] null lt in
    ap (λ c. test_passes o c v) (sym at)
    ∙ skips laws o (get_or ranges col no_range) (column_of rows col) v (are col inside) none i (omega (arith, length-map rows (λ row. get_or row col null)))
