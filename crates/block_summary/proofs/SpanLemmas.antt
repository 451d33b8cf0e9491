-- Numbers that lie between two, and numbers that pass a comparison.
use Rattle.std.proofs.Common.{◌≡◌, ℕ, ◌≤◌, ◌<◌, Bool, true, false, not, ◌&&◌, Some, refl, sym, ap, ◌∙◌, arith, inl, inr, min}
use Rattle.std.specs.Prelude.{ℤ, pos, negsuc, ◌+ℤ◌, ◌-ℤ◌, ◌≤ℤ◌, ◌<ℤ◌, int_le, int_lt, leb, FitsSigned, T}
use Rattle.std.specs.Int.{int_max, w64}
use Rattle.std.specs.Int.Signed.{le_z_yes, lt_z_no, lt_z_yes}
use Rattle.std.specs.Ordering.{int_cmp, is_eq, is_ge, is_gt, is_le, is_lt, MatchOrdering}
use Rattle.std.specs.declared.cmp.Ordering.{Ordering}
use Rattle.std.specs.declared.cmp.Ordering.TheVariants.{Less, Equal, Greater}
use Rattle.std.proofs.lemmas.Bool.{cases_lt, le-leb, lt-leb}
use Rattle.std.proofs.lemmas.Float.{T_from_false, T_from_true}
use Rattle.std.proofs.lemmas.Cmp.{int_ranked}
use Rattle.std.proofs.lemmas.Int.{clamps, ints}
use Rattle.std.proofs.Math.Bool.{and-true, and-false}
use Rattle.block_summary.specs.Cells.{number_or_null}
use Rattle.frame_of_reference.specs.Marks.{is_offset_between}
use Rattle.block_summary.specs.Passing.{lies_between}
use Rattle.block_summary.specs.declared.bounds.Bounds.{Bounds}

-- ---- tests of two numbers

T-true : (b : Bool) → T b → b ≡ true
T-true true h = refl
T-true false h = absurd h

pub at_most : (a b : ℤ) → a ≤ℤ b → int_le a b ≡ true
at_most a b h = T-true (int_le a b) h.le

pub beyond : (a b : ℤ) → b <ℤ a → int_le a b ≡ false
beyond a b h = by (int_le a b) refl
  where
    by : (t : Bool) → int_le a b ≡ t → t ≡ false
    by true e =
        let le : a ≤ℤ b = le_z_yes (T_from_true (int_le a b) e) in
        absurd (omega (arith, ints, h, le))
    by false e = refl

pub less : (a b : ℤ) → int_lt a b ≡ true → a <ℤ b
less a b e = lt_z_yes (T_from_true (int_lt a b) e)

pub not-less : (a b : ℤ) → int_lt a b ≡ false → b ≤ℤ a
not-less a b e = lt_z_no (T_from_false (int_lt a b) e)

-- both tests pass, or one does not
both_pass : (b : Bounds) (z : ℤ) → b.least ≤ℤ z → z ≤ℤ b.greatest → lies_between b (Some z) ≡ true
both_pass b z low high = ap (λ t. t && int_le z b.greatest) (at_most b.least z low) ∙ at_most z b.greatest high

pub low_fails : (b : Bounds) (z : ℤ) → z <ℤ b.least → lies_between b (Some z) ≡ false
low_fails b z low = ap (λ t. t && int_le z b.greatest) (beyond b.least z low)

pub high_fails : (b : Bounds) (z : ℤ) → b.greatest <ℤ z → lies_between b (Some z) ≡ false
high_fails b z high = ap (λ t. int_le b.least z && t) (beyond z b.greatest high) ∙ and-false (int_le b.least z)

-- ---- spans

pub fits-high : (z : ℤ) → FitsSigned w64 z → z ≤ℤ pos 9_223_372_036_854_775_807
fits-high (pos z) f = omega (arith, ints, f.sfits)
fits-high (negsuc z) f = omega (arith, ints)

pub fits-low : (z : ℤ) → FitsSigned w64 z → negsuc 9_223_372_036_854_775_807 ≤ℤ z
fits-low (pos z) f = omega (arith, ints)
fits-low (negsuc z) f = omega (arith, ints, f.sfits)

pub span-equal : (b : Bounds) (l z : ℤ) → b.least ≡ l → b.greatest ≡ l → lies_between b (Some z) ≡ is_eq (int_cmp z l)
span-equal b l z low high = by (int_cmp z l) (int_ranked z l (int_cmp z l) refl)
  where
    by : (r : Ordering) → MatchOrdering r (z <ℤ l) (z ≡ l) (l <ℤ z) → lies_between b (Some z) ≡ is_eq r
    by Less h = low_fails b z (omega (arith, ints, h, low))
    by Equal h = both_pass b z (omega (arith, ints, h, low)) (omega (arith, ints, h, high))
    by Greater h = high_fails b z (omega (arith, ints, h, high))

pub span-above : (b : Bounds) (l z : ℤ) → b.least ≡ l +ℤ pos 1 → z ≤ℤ b.greatest → lies_between b (Some z) ≡ is_gt (int_cmp z l)
span-above b l z low high = by (int_cmp z l) (int_ranked z l (int_cmp z l) refl)
  where
    by : (r : Ordering) → MatchOrdering r (z <ℤ l) (z ≡ l) (l <ℤ z) → lies_between b (Some z) ≡ is_gt r
    by Less h = low_fails b z (omega (arith, ints, h, low))
    by Equal h = low_fails b z (omega (arith, ints, h, low))
    by Greater h = both_pass b z (omega (arith, ints, h, low)) high

pub span-from : (b : Bounds) (l z : ℤ) → b.least ≡ l → z ≤ℤ b.greatest → lies_between b (Some z) ≡ is_ge (int_cmp z l)
span-from b l z low high = by (int_cmp z l) (int_ranked z l (int_cmp z l) refl)
  where
    by : (r : Ordering) → MatchOrdering r (z <ℤ l) (z ≡ l) (l <ℤ z) → lies_between b (Some z) ≡ is_ge r
    by Less h = low_fails b z (omega (arith, ints, h, low))
    by Equal h = both_pass b z (omega (arith, ints, h, low)) high
    by Greater h = both_pass b z (omega (arith, ints, h, low)) high

pub span-below : (b : Bounds) (l z : ℤ) → b.greatest ≡ l -ℤ pos 1 → b.least ≤ℤ z → lies_between b (Some z) ≡ is_lt (int_cmp z l)
span-below b l z high low = by (int_cmp z l) (int_ranked z l (int_cmp z l) refl)
  where
    by : (r : Ordering) → MatchOrdering r (z <ℤ l) (z ≡ l) (l <ℤ z) → lies_between b (Some z) ≡ is_lt r
    by Less h = both_pass b z low (omega (arith, ints, h, high))
    by Equal h = high_fails b z (omega (arith, ints, h, high))
    by Greater h = high_fails b z (omega (arith, ints, h, high))

pub span-to : (b : Bounds) (l z : ℤ) → b.greatest ≡ l → b.least ≤ℤ z → lies_between b (Some z) ≡ is_le (int_cmp z l)
span-to b l z high low = by (int_cmp z l) (int_ranked z l (int_cmp z l) refl)
  where
    by : (r : Ordering) → MatchOrdering r (z <ℤ l) (z ≡ l) (l <ℤ z) → lies_between b (Some z) ≡ is_le r
    by Less h = both_pass b z low (omega (arith, ints, h, high))
    by Equal h = both_pass b z low (omega (arith, ints, h, high))
    by Greater h = high_fails b z (omega (arith, ints, h, high))

-- no number lies between two of which the first is above the second
pub span-none : (b : Bounds) (z : ℤ) → b.greatest <ℤ b.least → lies_between b (Some z) ≡ false
span-none b z none = by (int_le b.least z) refl
  where
    by : (t : Bool) → int_le b.least z ≡ t → lies_between b (Some z) ≡ false
    by true e =
        let le : b.least ≤ℤ z = le_z_yes (T_from_true (int_le b.least z) e) in
        high_fails b z (omega (arith, ints, none, le))
    by false e = ap (λ t. t && int_le z b.greatest) e

-- and none of 64 bits is greater than the greatest of these, or less than the least
pub none-above : (l z : ℤ) → z ≤ℤ l → is_gt (int_cmp z l) ≡ false
none-above l z le = by (int_cmp z l) (int_ranked z l (int_cmp z l) refl)
  where
    by : (r : Ordering) → MatchOrdering r (z <ℤ l) (z ≡ l) (l <ℤ z) → is_gt r ≡ false
    by Less h = refl
    by Equal h = refl
    by Greater h = absurd (omega (arith, ints, h, le))

pub none-below : (l z : ℤ) → l ≤ℤ z → is_lt (int_cmp z l) ≡ false
none-below l z le = by (int_cmp z l) (int_ranked z l (int_cmp z l) refl)
  where
    by : (r : Ordering) → MatchOrdering r (z <ℤ l) (z ≡ l) (l <ℤ z) → is_lt r ≡ false
    by Less h = absurd (omega (arith, ints, h, le))
    by Equal h = refl
    by Greater h = refl

-- ---- offsets

-- an end that is clipped to what an offset can be
leb-min : (o high limit : ℕ) → o ≤ limit → leb o (min high limit) ≡ leb o high
leb-min o high limit h = elim (cases_lt high o) [
  | inl past ↦ lt-leb o (min high limit) (omega arith) ∙ sym (lt-leb o high past)
  | inr within ↦ le-leb o (min high limit) (omega arith) ∙ sym (le-leb o high within)
]

pub clipped : (limit low high least greatest o : ℕ) → o ≤ limit → least ≡ low → greatest ≡ min high limit → is_offset_between least greatest o ≡ is_offset_between low high o
clipped limit low high least greatest o h e f =
    ap (λ n. leb n o && leb o greatest) e ∙ ap (λ n. leb low o && leb o n) f ∙ ap (λ t. leb low o && t) (leb-min o high limit h)

pub none-from : (limit low high o : ℕ) → o ≤ limit → limit < low → false ≡ is_offset_between low high o
none-from limit low high o h past = sym (ap (λ t. t && leb o high) (lt-leb low o (omega arith)))

leb-low : (b : Bounds) (least : ℤ) (o low : ℕ) → pos low ≡ int_max b.least least -ℤ least → leb low o ≡ int_le b.least (least +ℤ pos o)
leb-low b least o low e = elim (cases_lt o low) [
  | inl past ↦ lt-leb low o past ∙ sym (beyond b.least (least +ℤ pos o) (omega (arith, ints, clamps)))
  | inr within ↦ le-leb low o within ∙ sym (at_most b.least (least +ℤ pos o) (omega (arith, ints, clamps)))
]

leb-high : (b : Bounds) (least : ℤ) (o high : ℕ) → pos high ≡ b.greatest -ℤ least → leb o high ≡ int_le (least +ℤ pos o) b.greatest
leb-high b least o high e = elim (cases_lt high o) [
  | inl past ↦ lt-leb o high past ∙ sym (beyond (least +ℤ pos o) b.greatest (omega (arith, ints)))
  | inr within ↦ le-leb o high within ∙ sym (at_most (least +ℤ pos o) b.greatest (omega (arith, ints)))
]

-- a mark of an offset, of a row that may be null, is that of its number
pub mark-cell : (b : Bounds) (least : ℤ) (null : Bool) (o low high : ℕ) → pos low ≡ int_max b.least least -ℤ least → pos high ≡ b.greatest -ℤ least
    → (is_offset_between low high o && not null) ≡ lies_between b (number_or_null null (least +ℤ pos o))
mark-cell b least true o low high e f = and-false (is_offset_between low high o)
mark-cell b least false o low high e f =
    and-true (is_offset_between low high o)
    ∙ ap (λ t. t && leb o high) (leb-low b least o low e)
    ∙ ap (λ t. int_le b.least (least +ℤ pos o) && t) (leb-high b least o high f)

-- where the greater end is below the least number, no row is marked
pub no-cell : (b : Bounds) (least : ℤ) (null : Bool) (o : ℕ) → b.greatest <ℤ least → false ≡ lies_between b (number_or_null null (least +ℤ pos o))
no-cell b least true o below = refl
no-cell b least false o below = sym (high_fails b (least +ℤ pos o) (omega (arith, ints)))
