-- Some of the rows of a table.
use Rattle.std.proofs.Common.{◌≡◌, inl, inr, cond, ℕ, Option, None, Some, option_map, option_and_then, get_or, refl, Result, Ok, Err, ◌+◌, ◌*◌, ◌-◌, ◌<◌, ◌≤◌, min, List, length, take, drop, slice_get, ap, sym, ◌∙◌, arith}
use Rattle.std.specs.Prelude.{IfOk}
use Rattle.std.specs.declared.alloc.AllocError.{AllocError}
use Rattle.std.proofs.lemmas.Bool.{cases_order}
use Rattle.std.proofs.lemmas.List.{length-take, length-drop, take_all, take-map, drop-map}
use Rattle.block_summary.specs.declared.block.TheConstants.{BLOCK_ROWS}
use Rattle.block_summary.specs.Ranges.{column_of}
use Rattle.cell_types.specs.Kind.{kind_of}
use Rattle.cell_types.specs.Column.{ColumnOf}
use Rattle.cell_types.specs.Datatype.{DatatypeOf, is_text, integer, text, boolean, date, decimal}
use Rattle.cell_types.specs.Value.{CellValue, null}
use Rattle.csv_grammar.proofs.ListLaws.{slice_get-drop, slice_get-take}
use Rattle.table_store.specs.Table.{TableOf}
use Rattle.table_store.specs.Block.{block_of, packed_cells, part, text_cells, typed_cells_of}
use Rattle.column_blocks.specs.TypedColumn.{block_in, cells_of_numbers, cells_of_texts, typed_cells, ColumnCells}

-- the first of a list, as many as are asked for or as there are
take-fewer : {X : Type 0} (xs : List X) (n m : ℕ) → n ≡ min (length xs) m → take n xs ≡ take m xs
take-fewer xs n m e =
    elim (cases_order (length xs) m) [
      | inl same ↦ ap (λ k. take k xs) (omega (arith, e, same))
      | inr (inl less) ↦ take_all n xs (omega (arith, e, less)) ∙ sym (take_all m xs (omega (arith, less)))
      | inr (inr more) ↦ ap (λ k. take k xs) (omega (arith, e, more))
    ]

pub length-part : (table : TableOf) (first rows : ℕ) → first + rows ≤ length table.rows → length (part table first rows).rows ≡ rows
length-part table first rows within = omega (arith, length-take rows (drop first table.rows), length-drop first table.rows, within)

-- a row of a part
pub part-row : (table : TableOf) (first rows row : ℕ) → row < rows → slice_get (part table first rows).rows row ≡ slice_get table.rows (first + row)
part-row table first rows row h = slice_get-take rows (drop first table.rows) row h ∙ slice_get-drop first table.rows row

-- a block has as many rows as are left, at most `most`
pub part-fewer : (table : TableOf) (first rows most : ℕ) → rows ≡ min (length table.rows - first) most → part table first rows ≡ part table first most
part-fewer table first rows most e =
    let left = length-drop first table.rows in
    let rows_of : List (List CellValue) → TableOf = λ rs. record { schema = table.schema; rows = rs } in
    ap rows_of (take-fewer (drop first table.rows) rows most (omega (arith, left, e)))

-- ---- the cells of a column
pub column_of-part : (rows : List (List CellValue)) (first n col : ℕ) → column_of (take n (drop first rows)) col ≡ take n (drop first (column_of rows col))
column_of-part rows first n col =
    let cell : List CellValue → CellValue = λ values. get_or values col null in
    sym (take-map cell n (drop first rows)) ∙ ap (take n) (sym (drop-map cell first rows))

-- those that are packed
pub packed_part : (table : TableOf) (column : ColumnOf) (first n col : ℕ) → slice_get table.schema.columns col ≡ Some column
    → cells_of_numbers (kind_of column.datatype) (take n (drop first (column_of table.rows col))) ≡ packed_cells (part table first n) col
packed_part table column first n col at =
    let some : ColumnOf → Option (List CellValue) = λ column. cells_of_numbers (kind_of column.datatype) (column_of (take n (drop first table.rows)) col) in
    ap (cells_of_numbers (kind_of column.datatype)) (sym (column_of-part table.rows first n col))
    ∙ ap (option_and_then some) (sym at)

-- those that are shared
typed_part : (table : TableOf) (column : ColumnOf) (first n col : ℕ) → slice_get table.schema.columns col ≡ Some column
    → Some (typed_cells column (take n (drop first (column_of table.rows col)))) ≡ typed_cells_of (part table first n) col
typed_part table column first n col at =
    let some : ColumnOf → ColumnCells = λ column. typed_cells column (column_of (take n (drop first table.rows)) col) in
    ap (λ (cells : List CellValue). Some (typed_cells column cells)) (sym (column_of-part table.rows first n col)) ∙ ap (option_map some) (sym at)

pub shared_part : (table : TableOf) (column : ColumnOf) (kept : ColumnCells) (number col : ℕ) (result : Result ColumnCells AllocError)
    → slice_get table.schema.columns col ≡ Some column → kept ≡ typed_cells column (column_of table.rows col) → IfOk result (λ shared. shared ≡ block_in kept number)
    → IfOk result (λ shared. Some shared ≡ typed_cells_of (block_of table number) col)
shared_part table column kept number col (Ok shared) at is h =
    ap (λ (s : ColumnCells). Some s) (h ∙ ap (λ (k : ColumnCells). block_in k number) is) ∙ typed_part table column (number * BLOCK_ROWS) BLOCK_ROWS col at
shared_part table column kept number col (Err e) at is h = tt

-- and those of texts
texts_by : (datatype : DatatypeOf) (cells : List CellValue) → cells_of_texts (kind_of datatype) cells ≡ cond (is_text datatype) (Some cells) None
texts_by integer cells = refl
texts_by text cells = refl
texts_by (boolean of_true of_false) cells = refl
texts_by (date form) cells = refl
texts_by decimal cells = refl

pub text_part : (table : TableOf) (column : ColumnOf) (first n col : ℕ) → slice_get table.schema.columns col ≡ Some column
    → cells_of_texts (kind_of column.datatype) (take n (drop first (column_of table.rows col))) ≡ text_cells (part table first n) col
text_part table column first n col at =
    let some : ColumnOf → Option (List CellValue) = λ column. cond (is_text column.datatype) (Some (column_of (take n (drop first table.rows)) col)) None in
    ap (cells_of_texts (kind_of column.datatype)) (sym (column_of-part table.rows first n col))
    ∙ texts_by column.datatype (column_of (take n (drop first table.rows)) col) ∙ ap (option_and_then some) (sym at)
