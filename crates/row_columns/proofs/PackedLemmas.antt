-- Columns of rows as they are packed.
use Rattle.row_selection.proofs.NumberLemmas.{get-from, length-from}
use Rattle.row_columns.specs.Numbers.{numbers_from}
use Rattle.std.proofs.Common.{◌≡◌, ℕ, ◌+◌, ◌*◌, ◌/◌, ◌%◌, ◌<◌, ◌≤◌, List, [], Option, None, Some, length, map, get_or, option_copied, sym, ap, ◌∙◌, arith, refl}
use Rattle.std.specs.Prelude.{IfSome}
use Rattle.std.specs.Borrow.{Bor}
use Rattle.std.proofs.lemmas.List.{ext_get_or, get_or-map, get_or_read, length-map}
use Rattle.std.proofs.lemmas.Option.{same_Some, IfSome_then}
use Rattle.block_summary.specs.Ranges.{column_of}
use Rattle.block_summary.specs.declared.block.TheConstants.{BLOCK_ROWS}
use Rattle.cell_types.specs.declared.kind.ColumnKind.TheVariants.{Text, Number}
use Rattle.cell_types.specs.declared.kind.ColumnKind.{ColumnKind}
use Rattle.cell_types.specs.Value.{CellValue, null}
use Rattle.column_blocks.specs.ColumnCells.{ColumnCells}
use Rattle.column_blocks.specs.TypedColumn.{cells_of_numbers}
use Rattle.row_columns.specs.Piece.{piece_row}
use Rattle.row_columns.specs.Store.{numbered_row}
use Rattle.row_columns.proofs.PieceLemmas.{cell_of_piece}

-- packed cells are those of a column
pub packed_are : (packed : Option (Bor (List CellValue))) (kind : ColumnKind) (cells : List CellValue) → option_copied packed ≡ cells_of_numbers kind cells → IfSome packed (λ p. p.now ≡ cells)
packed_are None kind cells e = tt
packed_are (Some p) Text cells e = absurd (cc)
packed_are (Some p) (Number t) cells e = same_Some p.now cells e

pub packed_column : (piece : List ColumnCells) (col : ℕ) (column : ColumnCells) (packed : Option (Bor (List CellValue))) → col < length piece → column ≡ get_or piece col column
    → option_copied packed ≡ cells_of_numbers column.kind column.cells
    → IfSome packed (λ cells. (row : ℕ) → get_or cells.now row null ≡ get_or (piece_row piece row) col null)
packed_column piece col column packed inside is e =
    IfSome_then packed (packed_are packed column.kind column.cells e) (λ p same row. ap (λ cells. get_or cells row null) same ∙ cell_of_piece piece col row column inside is)

-- the numbers of the last block
pub from_last : (first count last : ℕ) → first ≡ last * BLOCK_ROWS → (i : ℕ) → i < length (numbers_from first count) → get_or (numbers_from first count) i 0 ≡ last * BLOCK_ROWS + i
from_last first count last begins i less = rw (← begins) (get-from first count i (omega (arith, length-from first count)))

-- a row of the last block
pub row_of_last : (pieces : List (List ColumnCells)) (last : ℕ) (piece : List ColumnCells) (numbers : List ℕ) → last < length pieces → piece ≡ get_or pieces last piece
    → length numbers ≤ BLOCK_ROWS → ((i : ℕ) → i < length numbers → get_or numbers i 0 ≡ last * BLOCK_ROWS + i)
    → (i : ℕ) → i < length numbers → numbered_row pieces (get_or numbers i 0) ≡ piece_row piece i
row_of_last pieces last piece numbers inside at most from i less =
    let none : List ColumnCells = [] in
    let number = get_or numbers i 0 in
    let is : number ≡ last * BLOCK_ROWS + i = from i less in
    let block : number / BLOCK_ROWS ≡ last = omega (arith, is, less, most) in
    let own : number % BLOCK_ROWS ≡ i = omega (arith, is, less, most) in
    rw (block, own, ← (get_or_read pieces last piece inside at none)) refl

-- and the column of all rows of a block
pub packed_rows : (pieces : List (List ColumnCells)) (last col : ℕ) (piece : List ColumnCells) (cells : List CellValue) (numbers : List ℕ) → last < length pieces → piece ≡ get_or pieces last piece
    → ((row : ℕ) → get_or cells row null ≡ get_or (piece_row piece row) col null) → length cells ≡ length numbers → length numbers ≤ BLOCK_ROWS
    → ((i : ℕ) → i < length numbers → get_or numbers i 0 ≡ last * BLOCK_ROWS + i) → cells ≡ column_of (map (numbered_row pieces) numbers) col
packed_rows pieces last col piece cells numbers inside at are long most from =
    ext_get_or null cells (column_of (map (numbered_row pieces) numbers) col)
    (long ∙ sym (length-map (map (numbered_row pieces) numbers) (λ row. get_or row col null) ∙ length-map numbers (numbered_row pieces)))
    (λ i less. each i (omega (arith, less, long)))
  where
    each : (i : ℕ) → i < length numbers → get_or cells i null ≡ get_or (column_of (map (numbered_row pieces) numbers) col) i null
    each i less =
        are i ∙ ap (λ row. get_or row col null) (sym (row_of_last pieces last piece numbers inside at most from i less))
        ∙ sym (get_or-map (λ row. get_or row col null) (map (numbered_row pieces) numbers) i [] null (omega (arith, less, length-map numbers (numbered_row pieces)))
        ∙ ap (λ row. get_or row col null) (get_or-map (numbered_row pieces) numbers i 0 [] less))
