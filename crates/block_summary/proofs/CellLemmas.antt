-- The cells that marks of nulls, a least number and offsets are.
use Rattle.std.proofs.Common.{◌≡◌, ◌⊎◌, inl, inr, map, replicate, ℕ, suc, zero, ◌+◌, ◌<◌, ◌≤◌, ◌^◌, Bool, true, false, cond, List, [], ◌∷◌, length, get_or, Option, None, Some, refl, sym, ap, ◌∙◌, subst, arith}
use Rattle.std.specs.Prelude.{ℤ, pos, ◌+ℤ◌, ◌≤ℤ◌, ◌<ℤ◌}
use Rattle.std.specs.List.{count_by}
use Rattle.std.specs.Option.{is_none}
use Rattle.std.proofs.lemmas.Bool.{true≢false}
use Rattle.std.proofs.lemmas.Int.{ints}
use Rattle.std.proofs.lemmas.List.Sums.{sum_by-cons}
use Rattle.std.proofs.lemmas.List.{ext_get_or, get_or-map, get_or-replicate, get_or_past, length-map, length-replicate}
use Rattle.block_summary.specs.Cells.{AreBelow, AreBetween, AreOffsets, AreWithin, number_or_null, cells_of, sums}

pub length-cells_of : (nulls : List Bool) (values : List ℤ) → length (cells_of nulls values) ≡ length values
length-cells_of nulls [] = refl
length-cells_of [] (v ∷ vs) = ap suc (length-cells_of [] vs)
length-cells_of (n ∷ ns) (v ∷ vs) = ap suc (length-cells_of ns vs)

pub length-sums : (least : ℤ) (offsets : List ℕ) → length (sums least offsets) ≡ length offsets
length-sums least [] = refl
length-sums least (o ∷ os) = ap suc (length-sums least os)

pub cells_of-at : (nulls : List Bool) (values : List ℤ) (i : ℕ) → i < length values → get_or (cells_of nulls values) i None ≡ number_or_null (get_or nulls i false) (get_or values i (pos 0))
cells_of-at nulls [] i h = absurd (omega arith)
cells_of-at [] (v ∷ vs) zero h = refl
cells_of-at [] (v ∷ vs) (suc i) h = cells_of-at [] vs i (omega arith)
cells_of-at (n ∷ ns) (v ∷ vs) zero h = refl
cells_of-at (n ∷ ns) (v ∷ vs) (suc i) h = cells_of-at ns vs i (omega arith)

cell-same : (n : Bool) (v w : ℤ) → (n ≡ false → v ≡ w) → number_or_null n v ≡ number_or_null n w
cell-same true v w h = refl
cell-same false v w h = ap Some (h refl)

-- the number of a row, and what it says
some-same : (v w : ℤ) → ◌≡◌ {A = Option ℤ} (Some v) (Some w) → v ≡ w
some-same v w e = cc

cell-some : (n : Bool) (v w : ℤ) → number_or_null n v ≡ Some w → (n ≡ false) × (v ≡ w)
cell-some true v w e = absurd (cc)
cell-some false v w e = (refl, some-same v w e)

none-some : (v : ℤ) → ◌≡◌ {A = Option ℤ} None (Some v) → ⊥
none-some v e = cc

pub number_at : (nulls : List Bool) (values : List ℤ) (i : ℕ) (v : ℤ) → get_or (cells_of nulls values) i None ≡ Some v
    → (i < length values) × (get_or nulls i false ≡ false) × (get_or values i (pos 0) ≡ v)
number_at nulls [] i v e = absurd (none-some v e)
number_at [] (x ∷ vs) zero v e = (omega arith, refl, some-same x v e)
number_at [] (x ∷ vs) (suc i) v e = let r = number_at [] vs i v e in (omega (arith, r.0), refl, r.2)
number_at (n ∷ ns) (x ∷ vs) zero v e = let r = cell-some n x v e in (omega arith, r.0, r.1)
number_at (n ∷ ns) (x ∷ vs) (suc i) v e = let r = number_at ns vs i v e in (omega (arith, r.0), r.1, r.2)

pub sums-at : (least : ℤ) (offsets : List ℕ) (i : ℕ) → i < length offsets → get_or (sums least offsets) i (pos 0) ≡ least +ℤ pos (get_or offsets i 0)
sums-at least offsets i h = get_or-map (λ offset. least +ℤ pos offset) offsets i 0 (pos 0) h

pub length-cells : (nulls : List Bool) (least : ℤ) (offsets : List ℕ) → length (cells_of nulls (sums least offsets)) ≡ length offsets
length-cells nulls least offsets = length-cells_of nulls (sums least offsets) ∙ length-sums least offsets

-- ---- what is packed

pub packed : (least greatest : ℤ) (nulls kept : List Bool) (values : List ℤ) (offsets : List ℕ) → AreOffsets least greatest nulls values offsets
    → ((i : ℕ) → get_or kept i false ≡ get_or nulls i false) → cells_of kept (sums least offsets) ≡ cells_of nulls values
packed least greatest nulls kept values offsets are same =
    let long : length (sums least offsets) ≡ length values = length-sums least offsets ∙ are.long in
    ext_get_or None _ _ (length-cells_of kept (sums least offsets) ∙ long ∙ sym (length-cells_of nulls values))
    (λ i h.
    let lt : i < length offsets = omega (arith, length-cells_of kept (sums least offsets), length-sums least offsets) in
    let in_sums : i < length (sums least offsets) = omega (arith, length-sums least offsets) in
    let in_values : i < length values = omega (arith, are.long) in
    cells_of-at kept (sums least offsets) i in_sums
    ∙ ap (λ n. number_or_null n (get_or (sums least offsets) i (pos 0))) (same i)
    ∙ cell-same (get_or nulls i false) _ _ (λ is. sums-at least offsets i lt ∙ are.each i lt is)
    ∙ sym (cells_of-at nulls values i in_values))

pub offsets_below : (least greatest : ℤ) (nulls : List Bool) (values : List ℤ) (offsets : List ℕ) → greatest <ℤ pos (2 ^ 63) → AreOffsets least greatest nulls values offsets → AreBelow least offsets
offsets_below least greatest nulls values offsets fits are = λ i h. omega (arith, ints, are.bound i h)

pub cells_between : (least greatest : ℤ) (nulls : List Bool) (values : List ℤ) → AreWithin least greatest nulls values → AreBetween least greatest (cells_of nulls values)
cells_between least greatest nulls values within = λ i v e.
    let at = number_at nulls values i v e in
    subst (λ x. (least ≤ℤ x) × (x ≤ℤ greatest)) at.2 (within i at.0 at.1)

-- ---- nulls

cell-null : (n : Bool) (v : ℤ) → is_none (number_or_null n v) ≡ n
cell-null true v = refl
cell-null false v = refl

pub nulls_counted : (nulls : List Bool) (values : List ℤ) → length nulls ≡ length values → count_by (λ is_null. is_null) nulls ≡ count_by is_none (cells_of nulls values)
nulls_counted [] [] e = refl
nulls_counted [] (v ∷ vs) e = absurd (omega arith)
nulls_counted (n ∷ ns) [] e = absurd (omega arith)
nulls_counted (n ∷ ns) (v ∷ vs) e =
    let rest = nulls_counted ns vs (omega arith) in
    sum_by-cons (λ b. cond b 1 0) n ns
    ∙ ap (λ k. cond n 1 0 + k) rest
    ∙ ap (λ b. cond b 1 0 + count_by is_none (cells_of ns vs)) (sym (cell-null n v))
    ∙ sym (sum_by-cons (λ c. cond (is_none c) 1 0) (number_or_null n v) (cells_of ns vs))

-- ---- what is read

pub read_null : (nulls : List Bool) (values : List ℤ) (i : ℕ) → get_or nulls i false ≡ true → None ≡ get_or (cells_of nulls values) i None
read_null nulls [] i e = refl
read_null [] (v ∷ vs) i e = absurd (true≢false (sym e))
read_null (n ∷ ns) (v ∷ vs) zero e = sym (ap (λ b. number_or_null b v) e)
read_null (n ∷ ns) (v ∷ vs) (suc i) e = read_null ns vs i e

pub read_sum : (nulls : List Bool) (least : ℤ) (offsets : List ℕ) (i : ℕ) → get_or nulls i false ≡ false → i < length offsets
    → Some (least +ℤ pos (get_or offsets i 0)) ≡ get_or (cells_of nulls (sums least offsets)) i None
read_sum nulls least offsets i is h =
    let inside : i < length (sums least offsets) = omega (arith, length-sums least offsets) in
    sym (cells_of-at nulls (sums least offsets) i inside ∙ ap (λ n. number_or_null n (get_or (sums least offsets) i (pos 0))) is ∙ ap Some (sums-at least offsets i h))

pub read_past : (nulls : List Bool) (least : ℤ) (offsets : List ℕ) (i : ℕ) → length offsets ≤ i → None ≡ get_or (cells_of nulls (sums least offsets)) i None
read_past nulls least offsets i h =
    sym (get_or_past (cells_of nulls (sums least offsets)) i None (omega (arith, length-cells_of nulls (sums least offsets), length-sums least offsets)))

pub unpacked : (nulls : List Bool) (least : ℤ) (offsets : List ℕ) (out : List ℤ) → length out ≡ length offsets
    → ((i : ℕ) → i < length out → get_or out i (pos 0) ≡ least +ℤ pos (get_or offsets i 0))
    → (i : ℕ) (v : ℤ) → get_or (cells_of nulls (sums least offsets)) i None ≡ Some v → get_or out i (pos 0) ≡ v
unpacked nulls least offsets out long each i v e =
    let at = number_at nulls (sums least offsets) i v e in
    let lt : i < length offsets = omega (arith, at.0, length-sums least offsets) in
    each i (omega arith) ∙ sym (sums-at least offsets i lt) ∙ at.2

pub marked : (nulls : List Bool) (least : ℤ) (offsets : List ℕ) (cells : List (Option ℤ)) → cells_of nulls (sums least offsets) ≡ cells → (i : ℕ) → i < length cells
    → get_or nulls i false ≡ is_none (get_or cells i None)
marked nulls least offsets cells view i h =
    let inside : i < length (sums least offsets) = omega (arith, length-cells_of nulls (sums least offsets), ap length view) in
    sym (ap (λ xs. is_none (get_or xs i None)) (sym view) ∙ ap is_none (cells_of-at nulls (sums least offsets) i inside) ∙ cell-null (get_or nulls i false) (get_or (sums least offsets) i (pos 0)))

pub marks_long : (kept nulls : List Bool) (offsets : List ℕ) → length nulls ≡ length offsets → (kept ≡ []) ⊎ (length kept ≡ length nulls) → (kept ≡ []) ⊎ (length kept ≡ length offsets)
marks_long kept nulls offsets e (inl none) = inl none
marks_long kept nulls offsets e (inr long) = inr (long ∙ e)

pub marks_are : (nulls : List Bool) (least : ℤ) (offsets : List ℕ) (cells : List (Option ℤ)) (out : List Bool) → cells_of nulls (sums least offsets) ≡ cells → length out ≡ length cells
    → ((i : ℕ) → i < length out → get_or out i false ≡ get_or nulls i false) → out ≡ map is_none cells
marks_are nulls least offsets cells out view long same = ext_get_or false out (map is_none cells) (long ∙ sym (length-map cells is_none))
    (λ i h. let inside : i < length cells = omega arith in
    same i h ∙ marked nulls least offsets cells view i inside ∙ sym (get_or-map is_none cells i None false inside))

pub marks_none : (nulls : List Bool) (least : ℤ) (offsets : List ℕ) (cells : List (Option ℤ)) (n : ℕ) → cells_of nulls (sums least offsets) ≡ cells → n ≡ length cells → length nulls ≡ 0
    → replicate n false ≡ map is_none cells
marks_none nulls least offsets cells n view long none =
    marks_are nulls least offsets cells (replicate n false) view (length-replicate n false ∙ long)
    (λ i h. get_or-replicate n i false false (omega (arith, length-replicate n false)) ∙ sym (get_or_past nulls i false (omega arith)))
