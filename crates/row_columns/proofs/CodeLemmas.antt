-- Codes of the values that rows have in a column.
use Rattle.std.proofs.Common.{◌≡◌, ℕ, suc, ◌+◌, ◌*◌, ◌<◌, ◌≤◌, List, [], ◌∷◌, Some, length, map, get_or, sym, ap, ◌∙◌, arith}
use Rattle.std.specs.List.{AllZip}
use Rattle.std.proofs.lemmas.List.{get_or-map, length-map}
use Rattle.block_summary.specs.declared.block.TheConstants.{BLOCK_ROWS}
use Rattle.cell_types.specs.Value.{CellValue, null}
use Rattle.text_columns.specs.Codes.{AreCodes}
use Rattle.text_columns.specs.declared.codes.TextCodes.{TextCodes}
use Rattle.column_blocks.specs.ColumnCells.{ColumnCells}
use Rattle.column_blocks.specs.TypedColumn.{cells_of_texts}
use Rattle.row_columns.specs.Codes.{HaveCodes, HaveCodesAt}
use Rattle.row_columns.specs.Piece.{piece_row}
use Rattle.row_columns.specs.Store.{numbered_row}
use Rattle.row_columns.proofs.PackedLemmas.{row_of_last}
use Rattle.row_columns.proofs.PieceLemmas.{cell_of_piece, text_cells}

-- the cell of a code
abbrev value_of : List CellValue → List ℕ → ℕ → CellValue
value_of texts rows code = get_or texts (get_or rows code 0) null

-- a row of a block by its code
coded_row : (piece : List ColumnCells) (col : ℕ) (column : ColumnCells) (texts : List CellValue) (codes : TextCodes) → col < length piece → column ≡ get_or piece col column
    → cells_of_texts column.kind column.cells ≡ Some texts → AreCodes codes texts
    → (row : ℕ) → row < length codes.codes.items → get_or (piece_row piece row) col null ≡ value_of texts codes.rows.items (get_or codes.codes.items row 0)
coded_row piece col column texts codes inside is some are row less =
    sym (cell_of_piece piece col row column inside is) ∙ ap (λ cells. get_or cells row null) (sym (text_cells column.kind column.cells texts some))
    ∙ sym ((are.each row (omega (arith, less, are.long))).1)

-- all rows of a block by their codes
pub all_coded : (piece : List ColumnCells) (col : ℕ) (column : ColumnCells) (texts : List CellValue) (codes : TextCodes) → col < length piece → column ≡ get_or piece col column
    → cells_of_texts column.kind column.cells ≡ Some texts → AreCodes codes texts → HaveCodesAt codes.codes.items col (piece_row piece)
all_coded piece col column texts codes inside is some are = (value_of texts codes.rows.items, coded_row piece col column texts codes inside is some are)

zip_from : {A : Type 0} (R : A → ℕ → Type 0) (d : A) (xs : List A) (ys : List ℕ) → length xs ≡ length ys → ((i : ℕ) → i < length ys → R (get_or xs i d) (get_or ys i 0)) → AllZip R xs ys
zip_from R d [] [] long at = tt
zip_from R d (x ∷ xs) (y ∷ ys) long at = (at 0 (omega arith), zip_from R d xs ys (omega arith) (λ i less. at (suc i) (omega arith)))
zip_from R d xs ys long at = absurd (omega arith)

-- so all rows of the last block
pub all_of_last : (pieces : List (List ColumnCells)) (last col : ℕ) (piece : List ColumnCells) (codes numbers : List ℕ) → last < length pieces → piece ≡ get_or pieces last piece
    → HaveCodesAt codes col (piece_row piece) → length codes ≡ length numbers → length numbers ≤ BLOCK_ROWS
    → ((i : ℕ) → i < length numbers → get_or numbers i 0 ≡ last * BLOCK_ROWS + i) → HaveCodes codes col (map (numbered_row pieces) numbers)
all_of_last pieces last col piece codes numbers inside at have long most from = (
  have.0,
  zip_from (λ (row : List CellValue) (code : ℕ). get_or row col null ≡ have.0 code) [] (map (numbered_row pieces) numbers) codes (length-map numbers (numbered_row pieces) ∙ sym long)
      (λ i less. let within : i < length numbers = omega (arith, less, long) in
      ap (λ row. get_or row col null) (get_or-map (numbered_row pieces) numbers i 0 [] within ∙ row_of_last pieces last piece numbers inside at most from i within) ∙ have.1 i less),
)
