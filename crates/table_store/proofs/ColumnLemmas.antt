-- Crates above may cite this file. The rows of columns, and the columns of rows.
use Rattle.std.proofs.Common.{◌≡◌, ◌<◌, ℕ, zero, suc, ◌+◌, List, [], ◌∷◌, length, map, drop, get_or, Some, option_map, option_and_then, slice_get, refl, ap, sym, ◌∙◌, arith}
use Rattle.std.specs.List.{range_with_len, All, AllByRecursion}
use Rattle.std.proofs.Math.ListN.{get_or-map}
use Rattle.std.proofs.lemmas.List.{ext_get_or, get_or-map as get_or-map-at, length-map}
use Rattle.std.proofs.lemmas.List.FromFn.{get_or-range_with_len, length-range_with_len}
use Rattle.std.proofs.lemmas.List.Elements.{All-from_recursion}
use Rattle.std.proofs.lemmas.Option.{get_or_from_slice_get, same_Some, slice_get-get_or, slice_get-map, slice_get_within}
use Rattle.block_summary.specs.Ranges.{column_of}
use Rattle.cell_types.specs.Column.{ColumnOf}
use Rattle.cell_types.specs.Value.{CellValue, null}
use Rattle.csvw_meta.specs.Schema.{SchemaOf}
use Rattle.key_index.specs.Key.{key_index}
use Rattle.key_index.specs.Keys.{typed_keys, typed_row}
use Rattle.table_store.specs.Inside.{rows_of_columns, table_of}
use Rattle.table_store.specs.Summaries.{cells_by_column}
use Rattle.table_store.specs.Table.{TableOf}
use Rattle.column_blocks.specs.TypedColumn.{typed_cells, AreTyped, ColumnCells}
use Rattle.file_cells.proofs.PlaceLemmas.{slice_get-from_read}

-- ---- rows of columns: there are `n`
pub length-rows_of_columns : (n : ℕ) (columns : List (List CellValue)) → length (rows_of_columns n columns) ≡ n
length-rows_of_columns zero columns = refl
length-rows_of_columns (suc n) columns = omega (arith, length-rows_of_columns n (map (drop 1) columns))

-- each with a cell of each column
pub rows_of_columns-wide : (n width : ℕ) (columns : List (List CellValue)) → length columns ≡ width
    → AllByRecursion (λ values. length values ≡ width) (rows_of_columns n columns)
rows_of_columns-wide zero width columns e = tt
rows_of_columns-wide (suc n) width columns e =
    (length-map columns (λ cells. get_or cells 0 null) ∙ e, rows_of_columns-wide n width (map (drop 1) columns) (length-map columns (drop 1) ∙ e))

-- the columns of rows give those rows
rows_of_columns-of : (rows columns : List (List CellValue)) → AllByRecursion (λ values. length values ≡ length columns) rows
    → ((col : ℕ) → col < length columns → get_or columns col [] ≡ column_of rows col) → rows_of_columns (length rows) columns ≡ rows
rows_of_columns-of [] columns wide are = refl
rows_of_columns-of (values ∷ rows) columns wide are =
    let cell : List CellValue → CellValue = λ cells. get_or cells 0 null in
    let none : List CellValue = [] in
    let heads : map cell columns ≡ values =
    ext_get_or null (map cell columns) values (length-map columns cell ∙ sym wide.0)
    (λ col within. get_or-map cell columns col none ∙ ap cell (are col (omega (arith, within, length-map columns cell)))) in
    let tails : rows_of_columns (length rows) (map (drop 1) columns) ≡ rows =
    rows_of_columns-of rows (map (drop 1) columns) (narrow rows wide.1)
    (λ col within. get_or-map (drop 1) columns col none ∙ ap (drop 1) (are col (omega (arith, within, length-map columns (drop 1))))) in
    ap (λ row. row ∷ rows_of_columns (length rows) (map (drop 1) columns)) heads ∙ ap (λ rs. values ∷ rs) tails
  where
    narrow : (rs : List (List CellValue)) → AllByRecursion (λ vs. length vs ≡ length columns) rs → AllByRecursion (λ vs. length vs ≡ length (map (drop 1) columns)) rs
    narrow [] h = tt
    narrow (r ∷ rs) h = (h.0 ∙ sym (length-map columns (drop 1)), narrow rs h.1)

-- a row has the cells at its place
next_cell : (cells : List CellValue) (row : ℕ) → get_or (drop 1 cells) row null ≡ get_or cells (suc row) null
next_cell [] row = refl
next_cell (cell ∷ cells) row = refl

next_cells : (columns : List (List CellValue)) (row : ℕ) → map (λ cells. get_or cells row null) (map (drop 1) columns) ≡ map (λ cells. get_or cells (suc row) null) columns
next_cells [] row = refl
next_cells (cells ∷ columns) row =
    ap (λ cell. cell ∷ map (λ cells. get_or cells row null) (map (drop 1) columns)) (next_cell cells row)
    ∙ ap (λ rest. get_or cells (suc row) null ∷ rest) (next_cells columns row)

rows_of_columns-at : (n row : ℕ) (columns : List (List CellValue)) → row < n → get_or (rows_of_columns n columns) row [] ≡ map (λ cells. get_or cells row null) columns
rows_of_columns-at zero row columns within = absurd (omega arith)
rows_of_columns-at (suc n) zero columns within = refl
rows_of_columns-at (suc n) (suc row) columns within = rows_of_columns-at n row (map (drop 1) columns) (omega arith) ∙ next_cells columns row

cells_at : (typed : List ColumnCells) (row : ℕ) → map (λ (column : ColumnCells). get_or column.cells row null) typed ≡ map (λ cells. get_or cells row null) (cells_by_column typed)
cells_at [] row = refl
cells_at (column ∷ typed) row = ap (λ rest. get_or column.cells row null ∷ rest) (cells_at typed row)

pub row_of_columns : (n row : ℕ) (typed : List ColumnCells) → row < n
    → map (λ (column : ColumnCells). get_or column.cells row null) typed ≡ get_or (rows_of_columns n (cells_by_column typed)) row []
row_of_columns n row typed within = cells_at typed row ∙ sym (rows_of_columns-at n row (cells_by_column typed) within)

-- the cells of a column
pub get_cells : (typed : List ColumnCells) (col : ℕ) (column : ColumnCells) → col < length typed → column ≡ get_or typed col column → get_or (cells_by_column typed) col [] ≡ column.cells
get_cells typed col column within is =
    let cells : ColumnCells → List CellValue = λ column. column.cells in
    let none : List CellValue = [] in
    get_or_from_slice_get (cells_by_column typed) col column.cells none
    (slice_get-map cells typed col ∙ ap (option_map cells) (slice_get-from_read typed col column within is))

-- ---- the columns of a table
pub there : {X : Type 0} (xs : List X) (n : ℕ) → n < length xs → (x : X) × (slice_get xs n ≡ Some x)
there [] n h = absurd (omega arith)
there (x ∷ xs) zero h = (x, refl)
there (x ∷ xs) (suc n) h = there xs n (omega arith)

-- a typed column is one of the schema, with its cells
pub column_at : (table : TableOf) (typed : List ColumnCells) (col : ℕ) (kept : ColumnCells) → AreTyped table.schema.columns table.rows typed → slice_get typed col ≡ Some kept
    → (column : ColumnOf) × (slice_get table.schema.columns col ≡ Some column) × (kept ≡ typed_cells column (column_of table.rows col))
column_at table typed col kept are at =
    let here = there table.schema.columns col (omega (arith, slice_get_within typed col kept at, are.count)) in
    (here.0, here.1, same_Some kept (typed_cells here.0 (column_of table.rows col)) (sym at ∙ are.each col here.0 here.1))

pub kept_cells : (table : TableOf) (typed : List ColumnCells) (col : ℕ) (kept : ColumnCells) → AreTyped table.schema.columns table.rows typed → slice_get typed col ≡ Some kept
    → kept.cells ≡ column_of table.rows col
kept_cells table typed col kept are at = ap (λ (column : ColumnCells). column.cells) (column_at table typed col kept are at).2

-- which has a cell for each row
pub kept_length : (table : TableOf) (typed : List ColumnCells) (col : ℕ) (kept : ColumnCells) → AreTyped table.schema.columns table.rows typed → slice_get typed col ≡ Some kept
    → length kept.cells ≡ length table.rows
kept_length table typed col kept are at = ap length (kept_cells table typed col kept are at) ∙ length-map table.rows (λ values. get_or values col null)

pub kept_lengths : (columns : List ColumnOf) (rows : List (List CellValue)) (typed : List ColumnCells) → AreTyped columns rows typed
    → All (λ (column : ColumnCells). length column.cells ≡ length rows) typed
kept_lengths columns rows typed are col default within =
    let kept : ColumnCells = get_or typed col default in
    let at : slice_get typed col ≡ Some kept = slice_get-get_or typed col default within in
    let here = there columns col (omega (arith, within, are.count)) in
    let same = same_Some kept (typed_cells here.0 (column_of rows col)) (sym at ∙ are.each col here.0 here.1) in
    ap (λ (column : ColumnCells). length column.cells) same ∙ length-map rows (λ values. get_or values col null)

-- the cells of a number among them
pub cells_by_column-at : (columns : List ColumnOf) (rows : List (List CellValue)) (typed : List ColumnCells) → AreTyped columns rows typed → (col : ℕ) → col < length columns
    → get_or (cells_by_column typed) col [] ≡ column_of rows col
cells_by_column-at columns rows typed are col within =
    let here = there columns col within in
    let cells : ColumnCells → List CellValue = λ column. column.cells in
    let none : List CellValue = [] in
    get_or_from_slice_get (cells_by_column typed) col (column_of rows col) none (slice_get-map cells typed col ∙ ap (option_map cells) (are.each col here.0 here.1))

-- the rows of the columns of rows are those rows
pub typed-rows : (columns : List ColumnOf) (rows : List (List CellValue)) (typed : List ColumnCells) (n : ℕ) → n ≡ length rows
    → AllByRecursion (λ values. length values ≡ length columns) rows → AreTyped columns rows typed → rows_of_columns n (cells_by_column typed) ≡ rows
typed-rows columns rows typed n count wide are =
    let same : length (cells_by_column typed) ≡ length columns = length-map typed (λ (column : ColumnCells). column.cells) ∙ are.count in
    ap (λ k. rows_of_columns k (cells_by_column typed)) count
    ∙ rows_of_columns-of rows (cells_by_column typed) (rw same wide)
    (λ col within. cells_by_column-at columns rows typed are col (omega (arith, within, same)))

-- the keys of columns are those of their rows
pub typed-keys : (places : List ℕ) (typed : List ColumnCells) (n : ℕ) → typed_keys places typed n ≡ key_index places (rows_of_columns n (cells_by_column typed))
typed-keys places typed n =
    let range = range_with_len 0 n in
    let line : ℕ → List CellValue = λ row. typed_row row typed in
    let size : length (map line range) ≡ n = length-map range line ∙ length-range_with_len 0 n in
    ap (key_index places)
    (ext_get_or [] (map line range) (rows_of_columns n (cells_by_column typed)) (size ∙ sym (length-rows_of_columns n (cells_by_column typed)))
    (λ row within.
    let inside : row < n = omega (arith, within, size) in
    let here : 0 + row ≡ row = omega arith in
    get_or-map-at line range row 0 [] (omega (arith, inside, length-range_with_len 0 n))
    ∙ ap line (get_or-range_with_len 0 n row 0 inside ∙ here) ∙ row_of_columns n row typed inside))

pub table-wide : (schema : SchemaOf) (n : ℕ) (typed : List ColumnCells) → length typed ≡ length schema.columns
    → AllByRecursion (λ values. length values ≡ length schema.columns) (table_of schema n typed).rows
table-wide schema n typed count =
    rows_of_columns-wide n (length schema.columns) (cells_by_column typed) (length-map typed (λ (column : ColumnCells). column.cells) ∙ count)

pub length-table : (schema : SchemaOf) (n : ℕ) (typed : List ColumnCells) → length (table_of schema n typed).rows ≡ n
length-table schema n typed = length-rows_of_columns n (cells_by_column typed)

-- the value of a row and a column
pub cell_of_column : (table : TableOf) (typed : List ColumnCells) (row col : ℕ) (kept : ColumnCells) → AreTyped table.schema.columns table.rows typed
    → AllByRecursion (λ values. length values ≡ length table.schema.columns) table.rows → row < length table.rows → slice_get typed col ≡ Some kept
    → option_and_then (λ values. slice_get values col) (slice_get table.rows row) ≡ Some (get_or kept.cells row null)
cell_of_column table typed row col kept are wide within at =
    let none : List CellValue = [] in
    let here : List CellValue = get_or table.rows row none in
    let inside : col < length table.schema.columns = omega (arith, slice_get_within typed col kept at, are.count) in
    let width = All-from_recursion (λ (values : List CellValue). length values ≡ length table.schema.columns) table.rows wide row none within in
    let cell : get_or kept.cells row null ≡ get_or here col null =
    ap (λ cells. get_or cells row null) (kept_cells table typed col kept are at)
    ∙ get_or-map (λ (values : List CellValue). get_or values col null) table.rows row none in
    ap (option_and_then (λ values. slice_get values col)) (slice_get-get_or table.rows row none within)
    ∙ slice_get-get_or here col null (omega (arith, width, inside)) ∙ ap (λ v. Some v) (sym cell)
