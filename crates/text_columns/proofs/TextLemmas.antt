-- The texts between places, row by row.
use Rattle.std.proofs.Common.{◌≡◌, ℕ, zero, suc, ◌<◌, ◌≤◌, Bool, true, false, List, [], ◌∷◌, ◌++◌, length, get_or, take, drop, slice_range, refl, sym, ap, ◌∙◌, arith}
use Rattle.cell_types.specs.Value.{CellValue, null, text}
use Rattle.std.proofs.lemmas.List.{ext_get_or, take-take}
use Rattle.std.proofs.lemmas.Slice.{between_is}
use Rattle.std.proofs.lemmas.Str.{IsCharBoundary-start}
use Rattle.std.specs.Str.{IsCharBoundary}
use Rattle.text_columns.specs.Texts.{text_unless_null, texts_unless_null, start_from, text_block_cells, texts_from, AreTextBytes, EndsRise}

pub length-texts : (start : ℕ) (ends bytes : List ℕ) → length (texts_from start ends bytes) ≡ length ends
length-texts start [] bytes = refl
length-texts start (end ∷ ends) bytes = ap suc (length-texts end ends bytes)

pub length-cells : (nulls : List Bool) (texts : List (List ℕ)) → length (texts_unless_null nulls texts) ≡ length texts
length-cells nulls [] = refl
length-cells [] (t ∷ texts) = ap suc (length-cells [] texts)
length-cells (n ∷ nulls) (t ∷ texts) = ap suc (length-cells nulls texts)

pub length-text_cells : (nulls : List Bool) (ends bytes : List ℕ) → length (text_block_cells nulls ends bytes) ≡ length ends
length-text_cells nulls ends bytes = length-cells nulls (texts_from 0 ends bytes) ∙ length-texts 0 ends bytes

pub cells-at : (nulls : List Bool) (texts : List (List ℕ)) (i : ℕ) → i < length texts → get_or (texts_unless_null nulls texts) i null ≡ text_unless_null (get_or nulls i false) (get_or texts i [])
cells-at nulls [] i h = absurd (omega arith)
cells-at [] (t ∷ texts) zero h = refl
cells-at [] (t ∷ texts) (suc i) h = cells-at [] texts i (omega arith)
cells-at (n ∷ nulls) (t ∷ texts) zero h = refl
cells-at (n ∷ nulls) (t ∷ texts) (suc i) h = cells-at nulls texts i (omega arith)

pub texts-at : (start : ℕ) (ends bytes : List ℕ) (i : ℕ) → i < length ends → get_or (texts_from start ends bytes) i [] ≡ slice_range bytes (start_from start ends i) (get_or ends i 0)
texts-at start [] bytes i h = absurd (omega arith)
texts-at start (end ∷ ends) bytes zero h = refl
texts-at start (end ∷ ends) bytes (suc zero) h = texts-at end ends bytes zero (omega arith)
texts-at start (end ∷ ends) bytes (suc (suc i)) h = texts-at end ends bytes (suc i) (omega arith)

-- the cell of a row
pub cell-at : (nulls : List Bool) (ends bytes : List ℕ) (i : ℕ) → i < length ends
    → get_or (text_block_cells nulls ends bytes) i null ≡ text_unless_null (get_or nulls i false) (slice_range bytes (start_from 0 ends i) (get_or ends i 0))
cell-at nulls ends bytes i h =
    cells-at nulls (texts_from 0 ends bytes) i (omega (arith, length-texts 0 ends bytes))
    ∙ ap (text_unless_null (get_or nulls i false)) (texts-at 0 ends bytes i h)

-- a row of cells is one of texts
pub within-ends : (nulls : List Bool) (ends bytes : List ℕ) (cells : List CellValue) (row : ℕ) → text_block_cells nulls ends bytes ≡ cells → row < length cells → row < length ends
within-ends nulls ends bytes cells row is h = omega (arith, length-text_cells nulls ends bytes, ap length is)

-- no character is cut where a text begins
pub start-boundary : (nulls : List Bool) (ends bytes : List ℕ) (row : ℕ) → AreTextBytes nulls ends bytes → row < length ends → IsCharBoundary bytes (start_from 0 ends row)
start-boundary nulls ends bytes zero are h = IsCharBoundary-start bytes are.utf8
start-boundary nulls ends bytes (suc row) are h = are.boundaries row (omega arith)

-- the cell of a row that is marked, and of one that is not
pub null-at : (nulls : List Bool) (ends bytes : List ℕ) (cells : List CellValue) (row : ℕ) → text_block_cells nulls ends bytes ≡ cells → row < length cells → get_or nulls row false ≡ true
    → get_or cells row null ≡ null
null-at nulls ends bytes cells row is h marked =
    ap (λ xs. get_or xs row null) (sym is)
    ∙ cell-at nulls ends bytes row (within-ends nulls ends bytes cells row is h)
    ∙ ap (λ b. text_unless_null b (slice_range bytes (start_from 0 ends row) (get_or ends row 0))) marked

pub text-at : (nulls : List Bool) (ends bytes t : List ℕ) (cells : List CellValue) (row start end : ℕ) → text_block_cells nulls ends bytes ≡ cells → row < length cells → get_or nulls row false ≡ false
    → start ≡ start_from 0 ends row → end ≡ get_or ends row 0 → t ≡ slice_range bytes start end → get_or cells row null ≡ text t
text-at nulls ends bytes t cells row start end is h marked from to that =
    ap (λ xs. get_or xs row null) (sym is)
    ∙ cell-at nulls ends bytes row (within-ends nulls ends bytes cells row is h)
    ∙ ap (λ b. text_unless_null b (slice_range bytes (start_from 0 ends row) (get_or ends row 0))) marked
    ∙ ap (λ k. text (slice_range bytes k (get_or ends row 0))) (sym from)
    ∙ ap (λ k. text (slice_range bytes start k)) (sym to)
    ∙ ap text (sym that)

-- ---- one text more

pub texts-more : (start : ℕ) (ends bytes : List ℕ) (end : ℕ)
    → texts_from start (ends ++ end ∷ []) bytes ≡ texts_from start ends bytes ++ slice_range bytes (start_from start ends (length ends)) end ∷ []
texts-more start [] bytes end = refl
texts-more start (x ∷ []) bytes end = refl
texts-more start (x ∷ y ∷ ends) bytes end = ap (λ rest. slice_range bytes start x ∷ rest) (texts-more x (y ∷ ends) bytes end)

pub cells-more : (nulls : List Bool) (texts : List (List ℕ)) (b : Bool) (t : List ℕ) → length nulls ≡ length texts → texts_unless_null (nulls ++ b ∷ []) (texts ++ t ∷ []) ≡ texts_unless_null nulls texts ++ text_unless_null b t ∷ []
cells-more [] [] b t e = refl
cells-more [] (x ∷ texts) b t e = absurd (omega arith)
cells-more (n ∷ nulls) [] b t e = absurd (omega arith)
cells-more (n ∷ nulls) (x ∷ texts) b t e = ap (λ rest. text_unless_null n x ∷ rest) (cells-more nulls texts b t (omega arith))

-- ---- the same texts in other bytes

-- two lists of bytes have the same front, in which each text ends
slice-same : (xs ys : List ℕ) (i j n : ℕ) → j ≤ n → take n xs ≡ take n ys → slice_range xs i j ≡ slice_range ys i j
slice-same xs ys i j n le same =
    between_is xs i j
    ∙ ap (drop i) (sym (take-take j n xs le) ∙ ap (take j) same ∙ take-take j n ys le)
    ∙ sym (between_is ys i j)

pub texts-same : (ends xs ys : List ℕ) (n : ℕ) → EndsRise ends n → take n xs ≡ take n ys → texts_from 0 ends xs ≡ texts_from 0 ends ys
texts-same ends xs ys n rise same =
    ext_get_or [] (texts_from 0 ends xs) (texts_from 0 ends ys) (length-texts 0 ends xs ∙ sym (length-texts 0 ends ys))
    (λ i h.
    let lt : i < length ends = omega (arith, length-texts 0 ends xs) in
    texts-at 0 ends xs i lt ∙ slice-same xs ys (start_from 0 ends i) (get_or ends i 0) n (rise i lt).1 same ∙ sym (texts-at 0 ends ys i lt))

-- other marks that say the same
pub cells-same : (nulls kept : List Bool) (texts : List (List ℕ)) → ((row : ℕ) → get_or kept row false ≡ get_or nulls row false) → texts_unless_null kept texts ≡ texts_unless_null nulls texts
cells-same nulls kept texts same =
    ext_get_or null (texts_unless_null kept texts) (texts_unless_null nulls texts) (length-cells kept texts ∙ sym (length-cells nulls texts))
    (λ i h.
    let lt : i < length texts = omega (arith, length-cells kept texts) in
    cells-at kept texts i lt ∙ ap (λ b. text_unless_null b (get_or texts i [])) (same i) ∙ sym (cells-at nulls texts i lt))
