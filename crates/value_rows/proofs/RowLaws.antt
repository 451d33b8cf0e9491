-- Crates above may cite this file: laws of rows of the same number of items, one after another in one list.
use Rattle.std.proofs.Common.{◌≡◌, ℕ, zero, suc, ◌+◌, ◌*◌, ◌<◌, ◌≤◌, List, [], ◌∷◌, ◌++◌, Option, None, Some, length, map, take, drop, get_or, refl, sym, ap, ◌∙◌, arith}
use Rattle.std.specs.Prelude.{option_and_then, slice_get, slice_set}
use Rattle.std.specs.List.{AllByRecursion}
use Rattle.std.proofs.Math.Seq.{drop-append_seam, take-length}
use Rattle.std.proofs.lemmas.List.{drop-append-le, drop-map, drop-take, get_or-drop, get_or-take, length-drop, length-take, length-take-le, take-append-drop, take-append-le, take-map, take_at}
use Rattle.std.proofs.lemmas.Option.{get_or_from_slice_get}
use Rattle.cell_types.specs.Value.{CellValue, null}
use Rattle.value_rows.specs.ValueRows.{rows_of}

drop-none : {X : Type 0} (n : ℕ) → drop {A = X} n [] ≡ []
drop-none zero = refl
drop-none (suc n) = refl

drop-drop : {X : Type 0} (n m : ℕ) (xs : List X) → drop m (drop n xs) ≡ drop (n + m) xs
drop-drop zero m xs = ap (λ k. drop k xs) (omega arith)
drop-drop (suc n) m [] = drop-none m ∙ sym (drop-none (suc n + m))
drop-drop (suc n) m (x ∷ xs) = drop-drop n m xs ∙ (let e : suc n + m ≡ suc (n + m) = omega arith in sym (ap (λ k. drop k (x ∷ xs)) e))

pub take-take-le : {X : Type 0} (n m : ℕ) (xs : List X) → n ≤ m → take n (take m xs) ≡ take n xs
take-take-le zero m xs less = refl
take-take-le (suc n) zero xs less = absurd (omega arith)
take-take-le (suc n) (suc m) [] less = refl
take-take-le (suc n) (suc m) (x ∷ xs) less = ap (λ ys. x ∷ ys) (take-take-le n m xs (omega arith))

pub front-long : {X : Type 0} (n : ℕ) (xs ys : List X) → n ≤ length ys → take n xs ≡ take n ys → n ≤ length xs
front-long n xs ys long same = omega (arith, ap length same, length-take-le n ys long, length-take n xs)

pub times : (width n m : ℕ) → n ≤ m → n * width ≤ m * width
times width zero m less = omega arith
times width (suc n) zero less = absurd (omega arith)
times width (suc n) (suc m) less = let more = times width n m (omega arith) in omega (arith, more)

-- the items of a row are among those of all
pub row-inside : (width count row : ℕ) → row < count → row * width + width ≤ count * width
row-inside width count row less = let more = times width (suc row) count less in omega (arith, more)

module _ {X : Type 0} (width : ℕ) where
  rest : (count : ℕ) (items : List X) → suc count * width ≤ length items → (width ≤ length items) × (count * width ≤ length (drop width items))
  rest count items long = (omega (arith, long), omega (arith, long, length-drop width items))

  pub rows-long : (count : ℕ) (items : List X) → length (rows_of width count items) ≡ count
  rows-long zero items = refl
  rows-long (suc count) items = ap suc (rows-long count (drop width items))

  pub rows-wide : (count : ℕ) (items : List X) → count * width ≤ length items → AllByRecursion (λ (row : List X). length row ≡ width) (rows_of width count items)
  rows-wide zero items long = tt
  rows-wide (suc count) items long =
      let more = rest count items long in
      (length-take-le width items more.0, rows-wide count (drop width items) more.1)

  pub row-at : (count : ℕ) (items : List X) (row : ℕ) → row < count → get_or (rows_of width count items) row [] ≡ take width (drop (row * width) items)
  row-at zero items row inside = absurd (omega arith)
  row-at (suc count) items zero inside = let e : 0 ≡ 0 * width = omega arith in ap (λ k. take width (drop k items)) e
  row-at (suc count) items (suc row) inside =
      row-at count (drop width items) row (omega arith)
      ∙ ap (take width) (drop-drop width (row * width) items ∙ ap (λ k. drop k items) (omega arith))

  -- an item of a row
  pub item-at : (count : ℕ) (items : List X) (row col : ℕ) (d : X) → row < count → col < width → get_or (get_or (rows_of width count items) row []) col d ≡ get_or items (row * width + col) d
  item-at count items row col d inside within =
      ap (λ r. get_or r col d) (row-at count items row inside) ∙ get_or-take width (drop (row * width) items) col d within ∙ get_or-drop (row * width) items col d

  -- items after those of the rows count for nothing
  pub rows-before : (count : ℕ) (items more : List X) → count * width ≤ length items → rows_of width count (items ++ more) ≡ rows_of width count items
  rows-before zero items more long = refl
  rows-before (suc count) items more long =
      let left = rest count items long in
      ap (λ row. row ∷ rows_of width count (drop width (items ++ more))) (take-append-le width items more left.0)
      ∙ ap (λ rows. take width items ∷ rows) (ap (rows_of width count) (drop-append-le width items more left.0) ∙ rows-before count (drop width items) more left.1)

  pub rows-cut : (count : ℕ) (items : List X) → count * width ≤ length items → rows_of width count (take (count * width) items) ≡ rows_of width count items
  rows-cut count items long =
      sym (rows-before count (take (count * width) items) (drop (count * width) items) (omega (arith, length-take-le (count * width) items long)))
      ∙ ap (rows_of width count) (take-append-drop (count * width) items)

  -- lists that begin with the same items have the same rows
  pub rows-front : (count : ℕ) (items others : List X) → count * width ≤ length others → take (count * width) items ≡ take (count * width) others → rows_of width count items ≡ rows_of width count others
  rows-front count items others long same =
      sym (rows-cut count items (front-long (count * width) items others long same)) ∙ ap (rows_of width count) same ∙ rows-cut count others long

  -- one row more
  pub rows-more : (count : ℕ) (items row : List X) → length items ≡ count * width → length row ≡ width → rows_of width (suc count) (items ++ row) ≡ rows_of width count items ++ row ∷ []
  rows-more zero [] row long wide = ap (λ r. r ∷ []) (ap (λ n. take n row) (sym wide) ∙ take-length row)
  rows-more zero (x ∷ items) row long wide = absurd (omega (arith, long))
  rows-more (suc count) items row long wide =
      let left : width ≤ length items = omega (arith, long) in
      ap (λ r. r ∷ rows_of width (suc count) (drop width (items ++ row))) (take-append-le width items row left)
      ∙ ap (λ rows. take width items ∷ rows) (ap (rows_of width (suc count)) (drop-append-le width items row left)
      ∙ rows-more count (drop width items) row (omega (arith, long, length-drop width items)) wide)

  -- a row in the place of another
  pub rows-set : (count : ℕ) (items row : List X) (place : ℕ) → place < count → count * width ≤ length items → length row ≡ width
      → rows_of width count (take (place * width) items ++ (row ++ drop (place * width + width) items)) ≡ slice_set (rows_of width count items) place row
  rows-set zero items row place inside long wide = absurd (omega arith)
  rows-set (suc count) items row zero inside long wide =
      let first : take width (row ++ drop width items) ≡ row = take_at row (drop width items) width wide in
      let others : drop width (row ++ drop width items) ≡ drop width items = ap (λ n. drop n (row ++ drop width items)) (sym wide) ∙ drop-append_seam row (drop width items) in
      let none : 0 * width ≡ 0 = omega arith in
      let start : take (0 * width) items ++ (row ++ drop (0 * width + width) items) ≡ row ++ drop width items =
      ap (λ k. take k items ++ (row ++ drop (k + width) items)) none ∙ (let e : 0 + width ≡ width = omega arith in ap (λ k. row ++ drop k items) e) in
      ap (rows_of width (suc count)) start
      ∙ ap (λ r. r ∷ rows_of width count (drop width (row ++ drop width items))) first ∙ ap (λ rows. row ∷ rows_of width count rows) others
  rows-set (suc count) items row (suc place) inside long wide =
      let more = rest count items long in
      let left : width ≤ length (take (suc place * width) items) = omega (arith, length-take-le (suc place * width) items (fits place count items inside long)) in
      let end = row ++ drop (suc place * width + width) items in
      let first : take width (take (suc place * width) items ++ end) ≡ take width items =
      take-append-le width (take (suc place * width) items) end left ∙ take-take-le width (suc place * width) items (omega arith) in
      let one : suc place * width ≡ width + place * width = omega arith in
      let two : suc place * width + width ≡ width + (place * width + width) = omega arith in
      let before : drop width (take (suc place * width) items) ≡ take (place * width) (drop width items) = ap (λ n. drop width (take n items)) one ∙ drop-take width (place * width) items in
      let after : drop (suc place * width + width) items ≡ drop (place * width + width) (drop width items) = ap (λ n. drop n items) two ∙ sym (drop-drop width (place * width + width) items) in
      let others : drop width (take (suc place * width) items ++ end) ≡ take (place * width) (drop width items) ++ (row ++ drop (place * width + width) (drop width items)) =
      drop-append-le width (take (suc place * width) items) end left ∙ ap (λ xs. xs ++ end) before ∙ ap (λ xs. take (place * width) (drop width items) ++ (row ++ xs)) after in
      ap (λ r. r ∷ rows_of width count (drop width (take (suc place * width) items ++ end))) first
      ∙ ap (λ rows. take width items ∷ rows) (ap (rows_of width count) others ∙ rows-set count (drop width items) row place (omega arith) more.1 wide)
    where
      fits : (place count : ℕ) (items : List X) → suc place < suc count → suc count * width ≤ length items → suc place * width ≤ length items
      fits place count items inside long = omega (arith, times width (suc place) (suc count) (omega arith), long)

module _ {X Y : Type 0} (f : X → Y) where
  pub rows-map : (width count : ℕ) (items : List X) → rows_of width count (map f items) ≡ map (map f) (rows_of width count items)
  rows-map width zero items = refl
  rows-map width (suc count) items =
      ap (λ row. row ∷ rows_of width count (drop width (map f items))) (take-map f width items)
      ∙ ap (λ rows. map f (take width items) ∷ rows) (ap (rows_of width count) (drop-map f width items) ∙ rows-map width count (drop width items))

-- ---- a cell of a row

cell-of : (o : Option (List CellValue)) (col : ℕ) (v : CellValue) → option_and_then (λ (values : List CellValue). slice_get values col) o ≡ Some v
    → (values : List CellValue) × (o ≡ Some values) × (slice_get values col ≡ Some v)
cell-of None col v e = absurd (cc)
cell-of (Some values) col v e = (values, refl, e)

pub cell-is : (rows : List (List CellValue)) (row col : ℕ) (v : CellValue) → option_and_then (λ (values : List CellValue). slice_get values col) (slice_get rows row) ≡ Some v
    → v ≡ get_or (get_or rows row []) col null
cell-is rows row col v e =
    let here = cell-of (slice_get rows row) col v e in
    sym (ap (λ vs. get_or vs col null) (get_or_from_slice_get rows row here.0 [] here.1) ∙ get_or_from_slice_get here.0 col v null here.2)
