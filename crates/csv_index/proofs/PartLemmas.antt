-- The rows of a part are those between its places.
use Rattle.std.proofs.Common.{◌≡◌, ℕ, zero, suc, ◌+◌, ◌-◌, ◌*◌, ◌<◌, ◌≤◌, List, [], ◌∷◌, ◌++◌, length, map, take, drop, min, set, subst, Some, refl, ap, sym, ◌∙◌, arith, take-append-drop}
use Rattle.std.proofs.Math.Nat.{mul-le-mul}
use Rattle.std.proofs.lemmas.List.{drop-drop, take_more, take_more_set}
use Rattle.std.proofs.lemmas.Option.{get_or_from_slice_get, slice_get_within}
use Rattle.std.specs.List.{slice_get, slice_index}
use Rattle.csv_grammar.specs.Raw.{RawField}
use Rattle.csv_fields.specs.Between.{cut, raw_between}
use Rattle.csv_index.specs.Fields.{AreLeft}
use Rattle.csv_index.specs.Index.{start_at}
use Rattle.csv_fields.specs.Rows.{rows_cut}
use Rattle.csv_index.specs.Parts.{PartsOf}
use Rattle.csv_index.proofs.Boundaries.{left_behind}
use Rattle.csv_index.proofs.CellLemmas.{map-drop}

-- the first of the rest from a place stands there, and after it the rest from the next
pub drop-first : {X : Type 0} (xs : List X) (i : ℕ) (x : X) (rest : List X) → drop i xs ≡ x ∷ rest → (slice_get xs i ≡ Some x) × (drop (i + 1) xs ≡ rest)
drop-first [] zero x rest e = cc
drop-first [] (suc i) x rest e = cc
drop-first (y ∷ ys) zero x rest e = (cc, cc)
drop-first (y ∷ ys) (suc i) x rest e = let f : suc i + 1 ≡ suc (i + 1) = omega arith in rw f (drop-first ys i x rest e)

-- the next of a list, put after those before it
pub take_put : {X : Type 0} (xs ys : List X) (i : ℕ) (x : X) → i < length xs → take i xs ≡ take i ys → slice_get ys i ≡ Some x
    → take (i + 1) (set xs i x) ≡ take (i + 1) ys
take_put xs ys i x within before here =
    take_more_set xs i x within ∙ ap (λ front. front ++ x ∷ []) before
    ∙ ap (λ y. take i ys ++ y ∷ []) (sym (get_or_from_slice_get ys i x x here)) ∙ sym (take_more ys i x (slice_get_within ys i x here))

-- and after the first of a list
pub fill_put : (places ys : List ℕ) (i k x : ℕ) → k ≡ suc i → k < length places → take i (drop 1 places) ≡ take i ys → slice_get ys i ≡ Some x
    → (take (i + 1) (drop 1 (set places k x)) ≡ take (i + 1) ys) × (slice_index (set places k x) 0 ≡ slice_index places 0)
fill_put [] ys i k x is within before here = absurd (omega arith)
fill_put (place ∷ places) ys i k x is within before here =
    let inner : i < length places = omega arith in
    rw is (take_put places ys i x inner before here, refl)

-- the first `n` of the rows that fields are cut into
pub take-rows_cut : (n rows width : ℕ) (fields : List RawField) → take n (rows_cut rows width fields) ≡ rows_cut (min rows n) width fields
take-rows_cut zero rows width fields = let none : min rows 0 ≡ 0 = omega arith in rw none refl
take-rows_cut (suc n) zero width fields = let none : min 0 (suc n) ≡ 0 = omega arith in rw none refl
take-rows_cut (suc n) (suc rows) width fields =
    let more : min (suc rows) (suc n) ≡ suc (min rows n) = omega arith in
    rw more (ap (λ rest. take width fields ∷ rest) (take-rows_cut n rows width (drop width fields)))

-- and those after them
pub drop-rows_cut : (n rows width : ℕ) (fields : List RawField)
    → drop n (rows_cut rows width fields) ≡ rows_cut (rows - min rows n) width (drop (min rows n * width) fields)
drop-rows_cut zero rows width fields =
    let none : min rows 0 ≡ 0 = omega arith in
    let all : rows - 0 ≡ rows = omega arith in
    let first : 0 * width ≡ 0 = omega arith in
    rw (none, all, first) refl
drop-rows_cut (suc n) zero width fields =
    let none : 0 - min 0 (suc n) ≡ 0 = omega arith in
    rw none refl
drop-rows_cut (suc n) (suc rows) width fields =
    let left : rows - min rows n ≡ suc rows - min (suc rows) (suc n) = omega arith in
    let one : min (suc rows) (suc n) ≡ suc (min rows n) = omega arith in
    let past : width + min rows n * width ≡ suc (min rows n) * width = omega arith in
    drop-rows_cut n rows width (drop width fields)
    ∙ ap (rows_cut (rows - min rows n) width) (drop-drop (min rows n * width) width fields ∙ ap (λ k. drop k fields) (past ∙ ap (λ k. k * width) (sym one)))
    ∙ ap (λ k. rows_cut k width (drop (min (suc rows) (suc n) * width) fields)) left

-- the fields after `m` places
pub cut_past : (places ends bytes : List ℕ) (m : ℕ) → m < length places
    → cut (slice_index places m + 1) ends bytes ≡ drop m (cut (slice_index places 0 + 1) (take m (drop 1 places) ++ ends) bytes)
cut_past [] ends bytes m h = absurd (omega arith)
cut_past (first ∷ rest) ends bytes zero h = refl
cut_past (first ∷ []) ends bytes (suc m) h = absurd (omega arith)
cut_past (first ∷ next ∷ rest) ends bytes (suc m) h = cut_past (next ∷ rest) ends bytes m (omega arith)

pub left_past : (places ends bytes : List ℕ) (m : ℕ) → m < length places → AreLeft (slice_index places 0 + 1) (take m (drop 1 places) ++ ends) bytes
    → AreLeft (slice_index places m + 1) ends bytes
left_past [] ends bytes m h left = absurd (omega arith)
left_past (first ∷ rest) ends bytes zero h left = left
left_past (first ∷ []) ends bytes (suc m) h left = absurd (omega arith)
left_past (first ∷ next ∷ rest) ends bytes (suc m) h left =
    left_past (next ∷ rest) ends bytes m (omega arith) (left_behind (first + 1) next (take m rest ++ ends) bytes left)

-- the field of a number ends at the place after it
pub place_at : (places ends : List ℕ) (m n : ℕ) → m < length places → n < m → slice_get (take m (drop 1 places) ++ ends) n ≡ Some (slice_index places (suc n))
place_at [] ends m n h l = absurd (omega arith)
place_at (first ∷ rest) ends zero n h l = absurd (omega arith)
place_at (first ∷ []) ends (suc m) n h l = absurd (omega arith)
place_at (first ∷ next ∷ rest) ends (suc m) zero h l = refl
place_at (first ∷ next ∷ rest) ends (suc m) (suc n) h l = place_at (next ∷ rest) ends m n (omega arith) (omega arith)

-- and begins past the place before it
pub start_past : (places ends : List ℕ) (m n : ℕ) → m < length places → n < m
    → start_at (slice_index places 0 + 1) (take m (drop 1 places) ++ ends) n ≡ slice_index places n + 1
start_past [] ends m n h l = absurd (omega arith)
start_past (first ∷ rest) ends zero n h l = absurd (omega arith)
start_past (first ∷ []) ends (suc m) n h l = absurd (omega arith)
start_past (first ∷ next ∷ rest) ends (suc m) zero h l = refl
start_past (first ∷ next ∷ rest) ends (suc m) (suc n) h l = start_past (next ∷ rest) ends m n (omega arith) (omega arith)

-- ---- the next part
abbrev pub fields_of : List ℕ → List ℕ → ℕ → List ℕ → List RawField
fields_of text places count ends = map raw_between (cut (slice_index places 0 + 1) (take count (drop 1 places) ++ ends) text)

-- places that are those that were left, past the last of the part before
pub record AreNext (places new ends left : List ℕ) (last count : ℕ) : Type 0 where
  pub within : last < length places
  pub first : slice_index new 0 ≡ slice_index places last
  pub filled : take count (drop 1 new) ≡ take count ends
  pub rest : left ≡ drop count ends

all_left : (places new ends left : List ℕ) (last count : ℕ) → AreNext places new ends left last count → take count (drop 1 new) ++ left ≡ ends
all_left places new ends left last count are =
    ap (λ front. front ++ left) are.filled ∙ ap (λ rest. take count ends ++ rest) are.rest ∙ take-append-drop count ends

fields_next : (text places new ends left : List ℕ) (last count : ℕ) → AreNext places new ends left last count
    → fields_of text new count left ≡ drop last (fields_of text places last ends)
fields_next text places new ends left last count are =
    ap (λ all. map raw_between (cut (slice_index new 0 + 1) all text)) (all_left places new ends left last count are)
    ∙ ap (λ k. map raw_between (cut (k + 1) ends text)) are.first
    ∙ ap (map raw_between) (cut_past places ends text last are.within)
    ∙ map-drop raw_between last (cut (slice_index places 0 + 1) (take last (drop 1 places) ++ ends) text)

pub part_next : (text places new ends after : List ℕ) (width rows left more most : ℕ) → more ≡ min left most
    → AreNext places new ends after (rows * width) (more * width)
    → rows_cut more width (fields_of text new (more * width) after) ≡ take most (rows_cut left width (drop (rows * width) (fields_of text places (rows * width) ends)))
part_next text places new ends after width rows left more most is are =
    ap (rows_cut more width) (fields_next text places new ends after (rows * width) (more * width) are)
    ∙ ap (λ k. rows_cut k width (drop (rows * width) (fields_of text places (rows * width) ends))) is
    ∙ sym (take-rows_cut most left width (drop (rows * width) (fields_of text places (rows * width) ends)))

pub left_next : (text places new ends after : List ℕ) (width rows left more most : ℕ) → more ≡ min left most
    → AreNext places new ends after (rows * width) (more * width)
    → rows_cut (left - more) width (drop (more * width) (fields_of text new (more * width) after))
    ≡ drop most (rows_cut left width (drop (rows * width) (fields_of text places (rows * width) ends)))
left_next text places new ends after width rows left more most is are =
    ap (λ fields. rows_cut (left - more) width (drop (more * width) fields)) (fields_next text places new ends after (rows * width) (more * width) are)
    ∙ ap (λ k. rows_cut (left - k) width (drop (k * width) (drop (rows * width) (fields_of text places (rows * width) ends)))) is
    ∙ sym (drop-rows_cut most left width (drop (rows * width) (fields_of text places (rows * width) ends)))

pub ends_next_part : (text places new ends left : List ℕ) (last count : ℕ) → AreNext places new ends left last count
    → AreLeft (slice_index places 0 + 1) (take last (drop 1 places) ++ ends) text → AreLeft (slice_index new 0 + 1) (take count (drop 1 new) ++ left) text
ends_next_part text places new ends left last count are was =
    subst (λ all. AreLeft (slice_index new 0 + 1) all text) (sym (all_left places new ends left last count are))
    (subst (λ k. AreLeft (k + 1) ends text) (sym are.first) (left_past places ends text last are.within was))

abbrev pub parts_with_rows : List ℕ → ℕ → List (List RawField) → List (List RawField) → PartsOf
parts_with_rows bytes width part left = record { bytes = bytes; width = width; part = part; left = left }

pub parts_with : (bytes : List ℕ) (width : ℕ) (part newer left later : List (List RawField)) → part ≡ newer → left ≡ later
    → parts_with_rows bytes width part left ≡ parts_with_rows bytes width newer later
parts_with bytes width part newer left later e f = rw (e, f) refl

-- there is room for the part after it
pub room_next : (left more most width size : ℕ) → more ≡ min left most → more * width + 1 ≤ size → min (left - more) most * width + 1 ≤ size
room_next left more most width size is room =
    let fewer : min (left - more) most ≤ more = omega arith in
    let same : width ≤ width = omega arith in
    let cells : min (left - more) most * width ≤ more * width = mul-le-mul fewer same in
    omega (arith, cells)

-- and this many fields are left
pub count_next : (left more most width count size : ℕ) → more ≡ min left most → count ≡ left * width → size ≡ count - more * width → size ≡ (left - more) * width
count_next left more most width count size is all rest =
    let whole : left ≡ more + (left - more) = omega arith in
    let cells : left * width ≡ more * width + (left - more) * width = ap (λ k. k * width) whole ∙ omega arith in
    omega (arith, cells)
