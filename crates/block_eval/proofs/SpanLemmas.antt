-- Comparisons with a constant as comparisons of packed numbers with a span.
use Rattle.std.proofs.Common.{◌≡◌, ℕ, Bool, true, false, List, Option, None, Some, length, get_or, refl, sym, subst, ap, ◌∙◌, arith, not}
use Rattle.std.specs.Prelude.{ℤ, pos, negsuc, ◌+ℤ◌, ◌*ℤ◌, ◌<ℤ◌, ◌≤ℤ◌, option_and_then, option_map}
use Rattle.std.specs.Int.{int_div_euclid}
use Rattle.std.specs.Ordering.{int_cmp, is_gt, is_lt, MatchOrdering}
use Rattle.std.specs.declared.cmp.Ordering.{Ordering}
use Rattle.std.specs.declared.cmp.Ordering.TheVariants.{Less, Equal, Greater}
use Rattle.std.proofs.lemmas.Cmp.{int_ranked}
use Rattle.std.proofs.lemmas.Int.{ints}
use Rattle.std.proofs.lemmas.List.{length-map}
use Rattle.cell_types.specs.Value.{CellValue}
use Rattle.cell_types.specs.Kind.{number_in, number_of}
use Rattle.cell_types.specs.declared.kind.NumberKind.{NumberKind}
use Rattle.block_summary.specs.Types.{cells_of_kind, numbers_of}
use Rattle.block_summary.specs.declared.bounds.Bounds.{Bounds}
use Rattle.cell_types.specs.declared.comparison.ComparisonOperator.{ComparisonOperator}
use Rattle.cell_types.specs.declared.comparison.ComparisonOperator.TheVariants as operators
use Rattle.typed_trees.specs.declared.tree.DatePart.TheVariants.{Year}
use Rattle.typed_trees.specs.TypedTree as typed
use Rattle.typed_trees.specs.TypedTree.{NumberExprOf}
use Rattle.row_eval.specs.declared.truth.Truth.{Truth}
use Rattle.row_eval.specs.Comparison.{holds}
use Rattle.row_eval.specs.Logic.{least, opposite, truth_of}
use Rattle.row_eval.specs.Outcome.{both, number_outcome}
use Rattle.block_eval.specs.declared.columns.BlockColumn.{BlockColumn}
use Rattle.block_eval.specs.Lanes.{comparison, AreOutcomes, HasTruths}
use Rattle.block_eval.specs.Packed.{HasNumbersAt}
use Rattle.block_eval.specs.Parts.{day_part}
use Rattle.block_eval.specs.Spans.{in_span, span_comparison, ComparesSpan, IsSpanOf}
use Rattle.zone_maps.specs.Known.{IsConstantNumber}
use Rattle.block_eval.proofs.LogicLemmas.{all-gives}
use Rattle.block_eval.proofs.PackedLemmas.{number-back}

-- ---- spans

year-before : (n y : ℤ) → n <ℤ (y *ℤ pos 512) → int_div_euclid n (pos 512) <ℤ y
year-before (pos n) (pos y) h = omega (arith, ints, h)
year-before (pos n) (negsuc y) h = omega (arith, ints, h)
year-before (negsuc n) (pos y) h = omega (arith, ints, h)
year-before (negsuc n) (negsuc y) h = omega (arith, ints, h)

year-from : (n y : ℤ) → (y *ℤ pos 512) ≤ℤ n → y ≤ℤ int_div_euclid n (pos 512)
year-from (pos n) (pos y) h = omega (arith, ints, h)
year-from (pos n) (negsuc y) h = omega (arith, ints, h)
year-from (negsuc n) (pos y) h = omega (arith, ints, h)
year-from (negsuc n) (negsuc y) h = omega (arith, ints, h)

year-to : (n y : ℤ) → n ≤ℤ ((y *ℤ pos 512) +ℤ pos 511) → int_div_euclid n (pos 512) ≤ℤ y
year-to (pos n) (pos y) h = omega (arith, ints, h)
year-to (pos n) (negsuc y) h = omega (arith, ints, h)
year-to (negsuc n) (pos y) h = omega (arith, ints, h)
year-to (negsuc n) (negsuc y) h = omega (arith, ints, h)

year-after : (n y : ℤ) → ((y *ℤ pos 512) +ℤ pos 511) <ℤ n → y <ℤ int_div_euclid n (pos 512)
year-after (pos n) (pos y) h = omega (arith, ints, h)
year-after (pos n) (negsuc y) h = omega (arith, ints, h)
year-after (negsuc n) (pos y) h = omega (arith, ints, h)
year-after (negsuc n) (negsuc y) h = omega (arith, ints, h)

-- the days of a year
pub span-of-days : (y : ℤ) (b : Bounds) → b.least ≡ y *ℤ pos 512 → b.greatest ≡ (y *ℤ pos 512) +ℤ pos 511 → IsSpanOf (day_part Year) y b
span-of-days y b least_is greatest_is = record {
  before = λ n h. year-before n y (subst (λ k. n <ℤ k) least_is h);
  from_least = λ n h. year-from n y (subst (λ k. k ≤ℤ n) least_is h);
  to_greatest = λ n h. year-to n y (subst (λ k. n ≤ℤ k) greatest_is h);
  after = λ n h. year-after n y (subst (λ k. k <ℤ n) greatest_is h);
}

-- ---- what a comparison with a span says

ge-holds : (r : Ordering) → holds operators.GreaterOrEqual (Some r) ≡ not (is_lt r)
ge-holds Less = refl
ge-holds Equal = refl
ge-holds Greater = refl

lt-holds : (r : Ordering) → holds operators.LessThan (Some r) ≡ is_lt r
lt-holds Less = refl
lt-holds Equal = refl
lt-holds Greater = refl

le-holds : (r : Ordering) → holds operators.LessOrEqual (Some r) ≡ not (is_gt r)
le-holds Less = refl
le-holds Equal = refl
le-holds Greater = refl

gt-holds : (r : Ordering) → holds operators.GreaterThan (Some r) ≡ is_gt r
gt-holds Less = refl
gt-holds Equal = refl
gt-holds Greater = refl

eq-holds : (r : Ordering) → least (truth_of (not (is_lt r))) (truth_of (not (is_gt r))) ≡ truth_of (holds operators.Equal (Some r))
eq-holds Less = refl
eq-holds Equal = refl
eq-holds Greater = refl

ne-holds : (b : Bool) → opposite (truth_of b) ≡ truth_of (not b)
ne-holds true = refl
ne-holds false = refl

-- two numbers lie below two others alike
lower : {a b x y : ℤ} (p r : Ordering) → MatchOrdering p (a <ℤ b) (a ≡ b) (b <ℤ a) → MatchOrdering r (x <ℤ y) (x ≡ y) (y <ℤ x) → (a <ℤ b → x <ℤ y) → (b ≤ℤ a → y ≤ℤ x) → is_lt p ≡ is_lt r
lower Less Less f g h k = refl
lower Less Equal f g h k = let below = h f in absurd (omega (arith, ints, below, g))
lower Less Greater f g h k = let below = h f in absurd (omega (arith, ints, below, g))
lower Equal Less f g h k = let above = k (omega (arith, ints, f)) in absurd (omega (arith, ints, above, g))
lower Greater Less f g h k = let above = k (omega (arith, ints, f)) in absurd (omega (arith, ints, above, g))
lower Equal Equal f g h k = refl
lower Equal Greater f g h k = refl
lower Greater Equal f g h k = refl
lower Greater Greater f g h k = refl

-- and above
upper : {a b x y : ℤ} (p r : Ordering) → MatchOrdering p (a <ℤ b) (a ≡ b) (b <ℤ a) → MatchOrdering r (x <ℤ y) (x ≡ y) (y <ℤ x) → (b <ℤ a → y <ℤ x) → (a ≤ℤ b → x ≤ℤ y) → is_gt p ≡ is_gt r
upper Greater Greater f g h k = refl
upper Greater Equal f g h k = let above = h f in absurd (omega (arith, ints, above, g))
upper Greater Less f g h k = let above = h f in absurd (omega (arith, ints, above, g))
upper Equal Greater f g h k = let below = k (omega (arith, ints, f)) in absurd (omega (arith, ints, below, g))
upper Less Greater f g h k = let below = k (omega (arith, ints, f)) in absurd (omega (arith, ints, below, g))
upper Equal Equal f g h k = refl
upper Equal Less f g h k = refl
upper Less Equal f g h k = refl
upper Less Less f g h k = refl

equal-number : (b : Bounds) (n : ℤ) (r : Ordering) → is_lt (int_cmp n b.least) ≡ is_lt r → is_gt (int_cmp n b.greatest) ≡ is_gt r → in_span b (Some n) ≡ truth_of (holds operators.Equal (Some r))
equal-number b n r below above =
    ap (λ x. least (truth_of x) (comparison operators.LessOrEqual (Some n) (Some b.greatest))) (ge-holds (int_cmp n b.least) ∙ ap not below)
    ∙ ap (λ x. least (truth_of (not (is_lt r))) (truth_of x)) (le-holds (int_cmp n b.greatest) ∙ ap not above)
    ∙ eq-holds r

span-number : (o : ComparisonOperator) (b : Bounds) (n : ℤ) (r : Ordering) → is_lt (int_cmp n b.least) ≡ is_lt r → is_gt (int_cmp n b.greatest) ≡ is_gt r → span_comparison o b (Some n) ≡ truth_of (holds o (Some r))
span-number operators.Equal b n r below above = equal-number b n r below above
span-number operators.NotEqual b n r below above = ap opposite (equal-number b n r below above) ∙ ne-holds (holds operators.Equal (Some r))
span-number operators.GreaterOrEqual b n r below above = ap truth_of (ge-holds (int_cmp n b.least) ∙ ap not below ∙ sym (ge-holds r))
span-number operators.LessThan b n r below above = ap truth_of (lt-holds (int_cmp n b.least) ∙ below ∙ sym (lt-holds r))
span-number operators.GreaterThan b n r below above = ap truth_of (gt-holds (int_cmp n b.greatest) ∙ above ∙ sym (gt-holds r))
span-number operators.LessOrEqual b n r below above = ap truth_of (le-holds (int_cmp n b.greatest) ∙ ap not above ∙ sym (le-holds r))

pub span-says : (f : ℤ → ℤ) (y : ℤ) (b : Bounds) → IsSpanOf f y b → (o : ComparisonOperator) (n : Option ℤ) → span_comparison o b n ≡ comparison o (option_map f n) (Some y)
span-says f y b is operators.Equal None = refl
span-says f y b is operators.NotEqual None = refl
span-says f y b is operators.GreaterThan None = refl
span-says f y b is operators.GreaterOrEqual None = refl
span-says f y b is operators.LessThan None = refl
span-says f y b is operators.LessOrEqual None = refl
span-says f y b is o (Some n) =
    span-number o b n (int_cmp (f n) y) (lower _ _ (int_ranked n b.least _ refl) (int_ranked (f n) y _ refl) (is.before n) (is.from_least n))
    (upper _ _ (int_ranked n b.greatest _ refl) (int_ranked (f n) y _ refl) (is.after n) (is.to_greatest n))

pub spans-give : (o : ComparisonOperator) (a b : NumberExprOf) (columns : List BlockColumn) (column : List CellValue) (span : Bounds) (wanted : List Bool) (ts : List Truth) → ComparesSpan a b columns column span
    → length column ≡ length wanted → HasTruths (length (numbers_of column)) (λ row. span_comparison o span (get_or (numbers_of column) row None)) ts → AreOutcomes (typed.compare_numbers o a b) columns wanted ts
spans-give o a b columns column span wanted ts is size has =
    let n = λ (row : ℕ). get_or (numbers_of column) row None in
    all-gives (λ cells. both (comparison o) (number_outcome a cells) (number_outcome b cells)) (λ row. span_comparison o span (n row)) columns wanted ts
    (subst (λ rows. HasTruths rows (λ row. span_comparison o span (n row)) ts) (length-map column number_of ∙ size) has)
    (λ row cells h at.
    ap (λ x. both (comparison o) x (number_outcome b cells)) (is.left_is row cells at)
    ∙ ap (both (comparison o) (Some (option_map is.f (n row)))) (is.right_is cells)
    ∙ ap (λ t. Some t) (sym (span-says is.f is.constant span is.span_is o (n row))))

-- ---- a column and the span of a number

same-number : (n : Option ℤ) → n ≡ option_map (λ z. z) n
same-number None = refl
same-number (Some z) = refl

pub column-spans : (columns : List BlockColumn) (kind : NumberKind) (place : ℕ) (column : List CellValue) (left right : NumberExprOf) (number : ℤ) (span : Bounds) → left ≡ typed.number_column kind place
    → HasNumbersAt columns place kind (numbers_of column) → cells_of_kind kind (numbers_of column) ≡ column → IsConstantNumber right (Some number) → IsSpanOf (λ z. z) number span
    → ComparesSpan left right columns column span
column-spans columns kind place column left right number span e has are constant is = record {
  f = λ z. z;
  constant = number;
  left_is = λ row cells at.
      let n = get_or (numbers_of column) row None in
      ap (λ l. number_outcome l cells) e
      ∙ ap (λ v. Some (option_and_then (number_in kind) v)) (has row cells at)
      ∙ ap (λ m. Some m) (number-back kind column row n are refl ∙ same-number n);
  right_is = constant;
  span_is = is;
}
