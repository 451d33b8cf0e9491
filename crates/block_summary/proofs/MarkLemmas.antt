-- The marks of the rows of a block, by their offsets.
use Rattle.std.proofs.Common.{◌≡◌, ℕ, ◌<◌, ◌^◌, Bool, true, false, not, ◌&&◌, List, length, map, replicate, get_or, Option, None, Some, refl, sym, ap, ◌∙◌, arith}
use Rattle.std.specs.Prelude.{ℤ, pos, negsuc, ◌+ℤ◌, ◌-ℤ◌, ◌≤ℤ◌, ◌<ℤ◌, FitsSigned, unsigned_abs}
use Rattle.std.specs.Int.{int_max, w64}
use Rattle.std.proofs.lemmas.Int.{clamps, ints}
use Rattle.std.proofs.lemmas.List.{ext_get_or, get_or-map, get_or-replicate, length-map, length-replicate}
use Rattle.std.proofs.lemmas.Bool.{false≢true, true≢false}
use Rattle.block_summary.specs.Cells.{cells_of, number_or_null, sums, AreBelow}
use Rattle.frame_of_reference.specs.Marks.{is_offset_between, AreMarkedBetween}
use Rattle.block_summary.specs.Passing.{is_turned, lies_between, number_passes, unturned, SpansPassing}
use Rattle.block_summary.specs.declared.bounds.Bounds.{Bounds}
use Rattle.cell_types.specs.declared.comparison.ComparisonOperator.{ComparisonOperator}
use Rattle.cell_types.specs.declared.comparison.ComparisonOperator.TheVariants as op
use Rattle.block_summary.proofs.CellLemmas.{cells_of-at, length-cells, length-sums, number_at, sums-at}
use Rattle.block_summary.proofs.SpanLemmas.{mark-cell, no-cell}

-- ---- the ends of offsets

abs-pos : (z : ℤ) → pos 0 ≤ℤ z → pos (unsigned_abs z) ≡ z
abs-pos (pos n) h = refl
abs-pos (negsuc n) h = absurd (omega (arith, ints, h))

pub low-is : (b : Bounds) (least m : ℤ) (low : ℕ) → m ≡ int_max b.least least → low ≡ unsigned_abs (m -ℤ least) → pos low ≡ int_max b.least least -ℤ least
low-is b least m low e f = ap pos f ∙ abs-pos (m -ℤ least) (omega (arith, ints, clamps, e)) ∙ ap (λ z. z -ℤ least) e

pub high-is : (b : Bounds) (least : ℤ) (high : ℕ) → least ≤ℤ b.greatest → high ≡ unsigned_abs (b.greatest -ℤ least) → pos high ≡ b.greatest -ℤ least
high-is b least high h f = ap pos f ∙ abs-pos (b.greatest -ℤ least) (omega (arith, ints, h))

-- ---- the rows

cell-is : (nulls : List Bool) (least : ℤ) (offsets : List ℕ) (cells : List (Option ℤ)) (i : ℕ) → cells_of nulls (sums least offsets) ≡ cells → i < length offsets
    → get_or cells i None ≡ number_or_null (get_or nulls i false) (least +ℤ pos (get_or offsets i 0))
cell-is nulls least offsets cells i view h =
    let inside : i < length (sums least offsets) = omega (arith, h, length-sums least offsets) in
    ap (λ xs. get_or xs i None) (sym view) ∙ cells_of-at nulls (sums least offsets) i inside ∙ ap (number_or_null (get_or nulls i false)) (sums-at least offsets i h)

pub none-between : (b : Bounds) (nulls : List Bool) (least : ℤ) (offsets : List ℕ) (cells : List (Option ℤ)) (n : ℕ) (out : List Bool) → cells_of nulls (sums least offsets) ≡ cells
    → b.greatest <ℤ least → n ≡ length cells → out ≡ replicate n false → (i : ℕ) → i < length out → get_or out i false ≡ lies_between b (get_or cells i None)
none-between b nulls least offsets cells n out view below long filled i h =
    let size : length (replicate n false) ≡ n = length-replicate n false in
    let inside : i < n = omega (arith, h, ap length filled, size) in
    let row : i < length offsets = omega (arith, inside, long, ap length view, length-cells nulls least offsets) in
    ap (λ xs. get_or xs i false) filled ∙ get_or-replicate n i false false inside ∙ no-cell b least (get_or nulls i false) (get_or offsets i 0) below
    ∙ sym (ap (lies_between b) (cell-is nulls least offsets cells i view row))

pub marked-between : (b : Bounds) (nulls kept : List Bool) (least : ℤ) (offsets : List ℕ) (cells : List (Option ℤ)) (low high : ℕ) (marks out : List Bool)
    → cells_of nulls (sums least offsets) ≡ cells → kept ≡ nulls → pos low ≡ int_max b.least least -ℤ least → pos high ≡ b.greatest -ℤ least → length marks ≡ length offsets
    → length out ≡ length marks → AreMarkedBetween low high offsets marks → ((i : ℕ) → i < length out → get_or out i false ≡ (get_or marks i false && not (get_or kept i false)))
    → (i : ℕ) → i < length out → get_or out i false ≡ lies_between b (get_or cells i None)
marked-between b nulls kept least offsets cells low high marks out view same e f size long are each i h =
    let marked : i < length marks = omega (arith, h, long) in
    let row : i < length offsets = omega (arith, marked, size) in
    each i h
    ∙ ap (λ t. t && not (get_or kept i false)) (are i marked)
    ∙ ap (λ xs. is_offset_between low high (get_or offsets i 0) && not (get_or xs i false)) same
    ∙ mark-cell b least (get_or nulls i false) (get_or offsets i 0) low high e f
    ∙ sym (ap (lies_between b) (cell-is nulls least offsets cells i view row))

-- ---- what passes

above-low : (a z : ℤ) → FitsSigned w64 a → a ≤ℤ z → z <ℤ pos (2 ^ 63) → FitsSigned w64 z
above-low a (pos z) f h k = record { sfits = omega (arith, ints, k) }
above-low (pos a) (negsuc z) f h k = absurd (omega (arith, ints, h))
above-low (negsuc a) (negsuc z) f h k = record { sfits = omega (arith, ints, f.sfits, h) }

pub all-fit : (nulls : List Bool) (least : ℤ) (offsets : List ℕ) (cells : List (Option ℤ)) → cells_of nulls (sums least offsets) ≡ cells → FitsSigned w64 least → AreBelow least offsets
    → (i : ℕ) (z : ℤ) → get_or cells i None ≡ Some z → FitsSigned w64 z
all-fit nulls least offsets cells view fits below = λ i z e.
    let at = number_at nulls (sums least offsets) i z (ap (λ xs. get_or xs i None) view ∙ e) in
    let row : i < length offsets = omega (arith, at.0, length-sums least offsets) in
    let is : z ≡ least +ℤ pos (get_or offsets i 0) = sym at.2 ∙ sums-at least offsets i row in
    above-low least z fits (omega (arith, ints, is)) (omega (arith, ints, is, below i row))

spanned : (o : ComparisonOperator) (l : ℤ) (b : Bounds) (n : Option ℤ) → SpansPassing o l b → ((z : ℤ) → n ≡ Some z → FitsSigned w64 z) → lies_between b n ≡ number_passes (unturned o) l n
spanned op.Equal l b None spans fits = refl
spanned op.NotEqual l b None spans fits = refl
spanned op.GreaterThan l b None spans fits = refl
spanned op.GreaterOrEqual l b None spans fits = refl
spanned op.LessThan l b None spans fits = refl
spanned op.LessOrEqual l b None spans fits = refl
spanned o l b (Some z) spans fits = spans z (fits z refl)

turned : (o : ComparisonOperator) (l : ℤ) (n : Option ℤ) → is_turned o ≡ true → not (number_passes (unturned o) l n) ≡ number_passes o l n
turned op.NotEqual l n e = refl
turned op.Equal l n e = absurd (false≢true e)
turned op.GreaterThan l n e = absurd (false≢true e)
turned op.GreaterOrEqual l n e = absurd (false≢true e)
turned op.LessThan l n e = absurd (false≢true e)
turned op.LessOrEqual l n e = absurd (false≢true e)

as-it-is : (o : ComparisonOperator) (l : ℤ) (n : Option ℤ) → is_turned o ≡ false → number_passes (unturned o) l n ≡ number_passes o l n
as-it-is op.NotEqual l n e = absurd (true≢false e)
as-it-is op.Equal l n e = refl
as-it-is op.GreaterThan l n e = refl
as-it-is op.GreaterOrEqual l n e = refl
as-it-is op.LessThan l n e = refl
as-it-is op.LessOrEqual l n e = refl

pub plain-marks : (o : ComparisonOperator) (l : ℤ) (b : Bounds) (cells : List (Option ℤ)) (marks : List Bool) → SpansPassing o l b → ((i : ℕ) (z : ℤ) → get_or cells i None ≡ Some z → FitsSigned w64 z)
    → length marks ≡ length cells → is_turned o ≡ false → ((i : ℕ) → i < length marks → get_or marks i false ≡ lies_between b (get_or cells i None)) → marks ≡ map (number_passes o l) cells
plain-marks o l b cells marks spans fits size plain each = ext_get_or false marks (map (number_passes o l) cells) (size ∙ sym (length-map cells (number_passes o l)))
    (λ i h. let inside : i < length cells = omega (arith, h, size) in
    each i h ∙ spanned o l b (get_or cells i None) spans (fits i) ∙ as-it-is o l (get_or cells i None) plain ∙ sym (get_or-map (number_passes o l) cells i None false inside))

pub turned-marks : (o : ComparisonOperator) (l : ℤ) (b : Bounds) (cells : List (Option ℤ)) (marks out : List Bool) → SpansPassing o l b → ((i : ℕ) (z : ℤ) → get_or cells i None ≡ Some z → FitsSigned w64 z)
    → length marks ≡ length cells → length out ≡ length marks → is_turned o ≡ true → ((i : ℕ) → i < length marks → get_or marks i false ≡ lies_between b (get_or cells i None))
    → ((i : ℕ) → i < length out → get_or out i false ≡ not (get_or marks i false)) → out ≡ map (number_passes o l) cells
turned-marks o l b cells marks out spans fits size long turn each turns = ext_get_or false out (map (number_passes o l) cells) (long ∙ size ∙ sym (length-map cells (number_passes o l)))
    (λ i h. let marked : i < length marks = omega (arith, h, long) in
    let inside : i < length cells = omega (arith, marked, size) in
    turns i h ∙ ap not (each i marked ∙ spanned o l b (get_or cells i None) spans (fits i)) ∙ turned o l (get_or cells i None) turn ∙ sym (get_or-map (number_passes o l) cells i None false inside))
