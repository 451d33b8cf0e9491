-- The keys of the columns of a key, of which all cells are kept.
use Rattle.std.proofs.Common.{◌≡◌, ◌<◌, ℕ, ◌==◌, true, List, [], ◌∷◌, length, map, get_or, Some, option_map, slice_get, refl, sym, ap, ◌∙◌, arith}
use Rattle.std.specs.List.{list_any, range_with_len}
use Rattle.std.proofs.lemmas.Bool.Decides.{nat_tests}
use Rattle.std.proofs.lemmas.List.{ext_get_or, get_or-map, length-map}
use Rattle.std.proofs.lemmas.List.Folds.{list_any_at}
use Rattle.std.proofs.lemmas.List.FromFn.{get_or-map-range_with_len, length-map-range_with_len}
use Rattle.std.proofs.lemmas.Option.{get_or_from_slice_get, slice_get-map, slice_get_within}
use Rattle.cell_types.specs.Value.{CellValue, null}
use Rattle.column_blocks.specs.ColumnReader.{cells_read, reader_at, ReaderOf}
use Rattle.column_blocks.specs.TypedColumn.{ColumnCells}
use Rattle.csvw_meta.specs.Schema.{SchemaOf}
use Rattle.file_cells.specs.Cells.{most_rows}
use Rattle.key_index.specs.Key.{key_index, row_key}
use Rattle.key_index.specs.Keys.{typed_keys, typed_row}
use Rattle.table_store.specs.Loading.{HasKeyColumns}
use Rattle.table_store.proofs.ColumnLemmas.{there}
use Rattle.folder_checks.specs.Cells.{AreKept}

eq_self : (n : ℕ) → (n == n) ≡ true
eq_self n = grind (arith, nat_tests)

-- the value of a row in a column of the key
cell_kept : (schema : SchemaOf) (rows : List (List CellValue)) (readers : List ReaderOf) (row p : ℕ) → AreKept schema rows readers → row < length rows → p < length schema.columns
    → list_any (λ place. place == p) schema.key ≡ true → get_or (typed_row row (map cells_read readers)) p null ≡ get_or (get_or rows row []) p null
cell_kept schema rows readers row p kept within inside is =
    let here = there schema.columns p inside in
    let had = kept.each p here.0 here.1 in
    let column : ColumnCells = cells_read (reader_at most_rows here.0 had.cells) in
    let typed = map cells_read readers in
    let at : slice_get typed p ≡ Some column = slice_get-map cells_read readers p ∙ ap (option_map cells_read) had.is in
    get_or-map (λ (of : ColumnCells). get_or of.cells row null) typed p column null (slice_get_within typed p column at)
    ∙ ap (λ (of : ColumnCells). get_or of.cells row null) (get_or_from_slice_get typed p column column at)
    ∙ ap (λ cells. get_or cells row null) (had.whole is)
    ∙ get_or-map (λ values. get_or values p null) rows row [] null within

-- the key of a row
row_kept : (schema : SchemaOf) (rows : List (List CellValue)) (readers : List ReaderOf) (row : ℕ) → HasKeyColumns schema → AreKept schema rows readers → row < length rows
    → row_key schema.key (typed_row row (map cells_read readers)) ≡ row_key schema.key (get_or rows row [])
row_kept schema rows readers row places kept within =
    let key = schema.key in
    let one : ℕ → CellValue = λ place. get_or (typed_row row (map cells_read readers)) place null in
    let two : ℕ → CellValue = λ place. get_or (get_or rows row []) place null in
    ext_get_or null (map one key) (map two key) (length-map key one ∙ sym (length-map key two))
    (λ k less.
    let inside : k < length key = omega (arith, less, length-map key one) in
    let p = get_or key k 0 in
    get_or-map one key k 0 null inside
    ∙ cell_kept schema rows readers row p kept within (places k 0 inside) (list_any_at (λ place. place == p) key k 0 inside (eq_self p))
    ∙ sym (get_or-map two key k 0 null inside))

same_keys : (key : List ℕ) (a b : List (List CellValue)) → map (row_key key) a ≡ map (row_key key) b → key_index key a ≡ key_index key b
same_keys [] a b same = refl
same_keys (place ∷ key) a b same = same

-- the keys of the columns are those of the rows
pub keys_kept : (schema : SchemaOf) (rows : List (List CellValue)) (readers : List ReaderOf) (n : ℕ) → HasKeyColumns schema → AreKept schema rows readers → n ≡ length rows
    → typed_keys schema.key (map cells_read readers) n ≡ key_index schema.key rows
keys_kept schema rows readers n places kept count =
    let line : ℕ → List CellValue = λ row. typed_row row (map cells_read readers) in
    let lines = map line (range_with_len 0 n) in
    let long : length lines ≡ n = length-map-range_with_len line 0 n in
    same_keys schema.key lines rows
    (ext_get_or [] (map (row_key schema.key) lines) (map (row_key schema.key) rows)
    (length-map lines (row_key schema.key) ∙ long ∙ count ∙ sym (length-map rows (row_key schema.key)))
    (λ row less.
    let inside : row < n = omega (arith, less, length-map lines (row_key schema.key), long) in
    get_or-map (row_key schema.key) lines row [] [] (omega (arith, inside, long))
    ∙ ap (row_key schema.key) (get_or-map-range_with_len line 0 n row row [] inside (omega arith))
    ∙ row_kept schema rows readers row places kept (omega (arith, inside, count))
    ∙ sym (get_or-map (row_key schema.key) rows row [] [] (omega (arith, inside, count)))))
