-- Rows that follow on one another in one block.
use Rattle.std.proofs.Common.{◌≡◌, ℕ, zero, suc, ◌+◌, ◌-◌, ◌*◌, ◌/◌, ◌%◌, ◌<◌, ◌≤◌, List, [], ◌∷◌, length, map, take, drop, get_or, refl, sym, ap, ◌∙◌, arith}
use Rattle.std.proofs.lemmas.List.{drop-map, get_or-map, length-map, take-map}
use Rattle.block_summary.specs.declared.block.TheConstants.{BLOCK_ROWS}
use Rattle.cell_types.specs.Value.{CellValue, null}
use Rattle.column_blocks.specs.ColumnCells.{ColumnCells}
use Rattle.row_columns.specs.Numbers.{numbers_from}
use Rattle.row_columns.specs.Part.{IsPartFrom}
use Rattle.row_columns.specs.Piece.{no_cells, piece_row}
use Rattle.row_columns.specs.Store.{numbered_row}
use Rattle.row_columns.proofs.StoreLemmas.{row_of_piece}
use Rattle.row_selection.proofs.NumberLemmas.{get-from, length-from, take-from}

from_own : (pieces : List (List ColumnCells)) (piece : List ColumnCells) (block own count : ℕ) → block < length pieces → piece ≡ get_or pieces block piece → own + count ≤ BLOCK_ROWS
    → map (piece_row piece) (numbers_from own count) ≡ map (numbered_row pieces) (numbers_from (block * BLOCK_ROWS + own) count)
from_own pieces piece block own zero inside at most = refl
from_own pieces piece block own (suc count) inside at most =
    let number = block * BLOCK_ROWS + own in
    let is_block : number / BLOCK_ROWS ≡ block = omega (arith, most) in
    let is_own : number % BLOCK_ROWS ≡ own = omega (arith, most) in
    let next : block * BLOCK_ROWS + suc own ≡ suc number = omega arith in
    let one : piece_row piece own ≡ numbered_row pieces number =
    ap (piece_row piece) (sym is_own) ∙ row_of_piece pieces number piece (omega (arith, is_block, inside)) (at ∙ ap (λ b. get_or pieces b piece) (sym is_block)) in
    rw (one, from_own pieces piece block (suc own) count inside at (omega (arith, most)), next) refl

-- rows with the numbers from one on, none of which is in another block
pub rows_of_block : (pieces : List (List ColumnCells)) (piece : List ColumnCells) (number count : ℕ) → number / BLOCK_ROWS < length pieces → piece ≡ get_or pieces (number / BLOCK_ROWS) piece
    → number % BLOCK_ROWS + count ≤ BLOCK_ROWS → map (piece_row piece) (numbers_from (number % BLOCK_ROWS) count) ≡ map (numbered_row pieces) (numbers_from number count)
rows_of_block pieces piece number count inside at most =
    let same : number / BLOCK_ROWS * BLOCK_ROWS + number % BLOCK_ROWS ≡ number = omega arith in
    rw same at (from_own pieces piece (number / BLOCK_ROWS) (number % BLOCK_ROWS) count inside at most)

drop-from : (first n row : ℕ) → row ≤ n → drop row (numbers_from first n) ≡ numbers_from (first + row) (n - row)
drop-from first n zero less = let same : first + 0 ≡ first = omega arith in let all : n - 0 ≡ n = omega arith in rw (same, all) refl
drop-from first zero (suc row) less = absurd (omega (arith, less))
drop-from first (suc n) (suc row) less =
    let next : first + suc row ≡ suc first + row = omega arith in
    let left : suc n - suc row ≡ n - row = omega arith in
    rw (next, left) (drop-from (suc first) n row (omega arith))

-- some of the rows with the numbers from one on
some_from : {X : Type 0} (f : ℕ → X) (first n row count number : ℕ) → row + count ≤ n → number ≡ first + row
    → map f (numbers_from number count) ≡ take count (drop row (map f (numbers_from first n)))
some_from f first n row count number within is =
    rw (
      is,
      drop-map f row (numbers_from first n),
      take-map f count (drop row (numbers_from first n)),
      drop-from first n row (omega arith),
      take-from (first + row) (n - row) count (omega arith),
    ) refl

pub some_of_run : {X : Type 0} (f : ℕ → X) (numbers : List ℕ) (first n row count number : ℕ) → numbers ≡ numbers_from first n → row + count ≤ length numbers → 0 < count → number ≡ get_or numbers row 0
    → map f (numbers_from number count) ≡ take count (drop row (map f numbers))
some_of_run f numbers first n row count number are within some is =
    let long : row + count ≤ n = omega (arith, within, ap length are, length-from first n) in
    rw are (some_from f first n row count number long (is ∙ ap (λ ns. get_or ns row 0) are ∙ get-from first n row (omega (arith, long, some))))

-- the cells of a column of rows of a block
pub column_of_rows : (piece : List ColumnCells) (col : ℕ) (cells : ColumnCells) (numbers : List ℕ) → col < length piece → cells ≡ get_or piece col no_cells
    → map (λ row. get_or cells.cells row null) numbers ≡ map (λ (row : List CellValue). get_or row col null) (map (piece_row piece) numbers)
column_of_rows piece col cells [] inside is = refl
column_of_rows piece col cells (n ∷ numbers) inside is =
    rw (get_or-map (λ (c : ColumnCells). get_or c.cells n null) piece col no_cells null inside, ← is, column_of_rows piece col cells numbers inside is) refl

-- where rows have a cell in a column, so has the block
pub first_within : (piece : List ColumnCells) (first len col : ℕ) → 0 < len
    → ((row : ℕ) → row < length (map (piece_row piece) (numbers_from first len)) → col < length (get_or (map (piece_row piece) (numbers_from first len)) row [])) → col < length piece
first_within piece first zero col some wide = absurd (omega (arith, some))
first_within piece first (suc len) col some wide = omega (arith, wide 0 (omega arith), length-map piece (λ (c : ColumnCells). get_or c.cells first null))

-- a cell of a column of them
pub part_at : (cells : List CellValue) (first len row : ℕ) → row < len → get_or (map (λ n. get_or cells n null) (numbers_from first len)) row null ≡ get_or cells (first + row) null
part_at cells first len row less =
    get_or-map (λ n. get_or cells n null) (numbers_from first len) row 0 null (omega (arith, less, length-from first len))
    ∙ ap (λ n. get_or cells n null) (get-from first len row less)

-- part of a column is what its block keeps from one row on
pub part_from : (cells part kept : List CellValue) (first len : ℕ) → kept ≡ cells → map (λ n. get_or cells n null) (numbers_from first len) ≡ part → first + len ≤ BLOCK_ROWS
    → IsPartFrom part first kept
part_from cells part kept first len same is fits =
    let long : length part ≡ len = sym (ap length is) ∙ length-map (numbers_from first len) (λ n. get_or cells n null) ∙ length-from first len in record {
      within = omega (arith, fits, long);
      at = λ row less. rw (← is, same) (part_at cells first len row (omega (arith, less, long)));
    }
