-- The cells of a column, block by block.
use Rattle.std.proofs.Common.{◌≡◌, inl, inr, ℕ, zero, suc, ◌+◌, ◌*◌, ◌/◌, ◌%◌, ◌<◌, ◌≤◌, List, [], ◌∷◌, ◌++◌, length, take, drop, get_or, ap, sym, ◌∙◌, arith}
use Rattle.std.proofs.lemmas.List.{append-nil, length-take, length-drop, get_or_past, drop_all, drop_at, drop-drop, get_or-drop, get_or-take, take_all, take_at}
use Rattle.std.proofs.lemmas.Grind.{flat_map-append}
use Rattle.std.proofs.Math.Nat.{mul_comm}
use Rattle.std.proofs.lemmas.Bool.{cases_order}
use Rattle.cell_types.specs.Value.{CellValue, null}
use Rattle.column_blocks.specs.TypedColumn.{cells_in, AreBlocks, AreFull}

-- a block is the cells that stand in its place
pub block_at : (size : ℕ) (blocks : List (List CellValue)) (i : ℕ) → AreBlocks size blocks
    → get_or blocks i [] ≡ take size (drop (i * size) (cells_in blocks))
block_at size [] i are =
    let none : List CellValue = [] in
    sym (ap (take size) (drop_all (i * size) none (omega arith)) ∙ take_all size none (omega arith))
block_at size (last ∷ []) zero are =
    let start : zero * size ≡ zero = omega arith in
    rw (start, append-nil last) (sym (take_all size last are.1))
block_at size (last ∷ []) (suc i) are =
    let none : List CellValue = [] in
    let more : suc i * size ≡ size + i * size = omega arith in
    let past = drop_all (suc i * size) last (omega (arith, more, are.1)) in
    rw (append-nil last, past) (sym (take_all size none (omega arith)))
block_at size (block ∷ next ∷ blocks) zero are =
    let start : zero * size ≡ zero = omega arith in
    rw start (sym (take_at block (cells_in (next ∷ blocks)) size are.0))
block_at size (block ∷ next ∷ blocks) (suc i) are =
    let more : suc i * size ≡ size + i * size = omega arith in
    let rest = cells_in (next ∷ blocks) in
    block_at size (next ∷ blocks) i are.1
    ∙ ap (take size) (ap (drop (i * size)) (sym (drop_at block rest size are.0)) ∙ drop-drop (i * size) size (block ++ rest) ∙ ap (λ n. drop n (block ++ rest)) (sym more))

-- so is the cell of a row
pub cell_at : (size : ℕ) (blocks : List (List CellValue)) (number row : ℕ) → AreBlocks size blocks → row < size
    → get_or (get_or blocks number []) row null ≡ get_or (cells_in blocks) (number * size + row) null
cell_at size blocks number row are within =
    ap (λ block. get_or block row null) (block_at size blocks number are)
    ∙ get_or-take size (drop (number * size) (cells_in blocks)) row null within
    ∙ get_or-drop (number * size) (cells_in blocks) row null

-- full blocks are blocks
pub full_blocks : (size : ℕ) (blocks : List (List CellValue)) → 0 < size → AreFull size blocks → AreBlocks size blocks
full_blocks size [] some full = tt
full_blocks size (last ∷ []) some full = (omega (arith, full.0), omega (arith, full.0))
full_blocks size (block ∷ next ∷ blocks) some full = (full.0, full_blocks size (next ∷ blocks) some full.1)

-- and with a last one after them
pub last_block : (size : ℕ) (blocks : List (List CellValue)) (last : List CellValue) → AreFull size blocks → 0 < length last → length last ≤ size
    → AreBlocks size (blocks ++ last ∷ [])
last_block size [] last full some most = (some, most)
last_block size (block ∷ []) last full some most = (full.0, (some, most))
last_block size (block ∷ next ∷ blocks) last full some most = (full.0, last_block size (next ∷ blocks) last full.1 some most)

pub full_push : (size : ℕ) (blocks : List (List CellValue)) (block : List CellValue) → AreFull size blocks → length block ≡ size
    → AreFull size (blocks ++ block ∷ [])
full_push size [] block full e = (e, tt)
full_push size (first ∷ blocks) block full e = (full.0, full_push size blocks block full.1 e)

-- the cells of one block more
pub cells_in-push : (blocks : List (List CellValue)) (block : List CellValue) → cells_in (blocks ++ block ∷ []) ≡ cells_in blocks ++ block
cells_in-push blocks block = flat_map-append (λ cells. cells) blocks (block ∷ []) ∙ ap (λ cells. cells_in blocks ++ cells) (append-nil block)

-- a cell is in a block
pub block_within : (size : ℕ) (blocks : List (List CellValue)) (number : ℕ) → AreBlocks size blocks → 0 < size → number * size < length (cells_in blocks)
    → number < length blocks
block_within size blocks number are some within =
    elim (cases_order number (length blocks)) [
      | inl same ↦ absurd (past (omega (arith, same)))
      | inr (inl less) ↦ less
      | inr (inr more) ↦ absurd (past (omega (arith, more)))
    ]
  where
    past : length blocks ≤ number → ⊥
    past h =
        let none : List CellValue = [] in
        let e = ap (λ cells. length cells) (sym (block_at size blocks number are) ∙ get_or_past blocks number none h) in
        omega (arith, e, length-take size (drop (number * size) (cells_in blocks)), length-drop (number * size) (cells_in blocks), some, within)

pub row_cell : (size : ℕ) (blocks : List (List CellValue)) (row : ℕ) → AreBlocks size blocks → 0 < size
    → get_or (get_or blocks (row / size) []) (row % size) null ≡ get_or (cells_in blocks) row null
row_cell size blocks row are some =
    let within : row % size < size = omega arith in
    let all : row / size * size + row % size ≡ row = omega (arith, mul_comm (row / size) size) in
    cell_at size blocks (row / size) (row % size) are within ∙ ap (λ n. get_or (cells_in blocks) n null) all
