-- The lines of columns and of tables, one after another.
use Rattle.std.proofs.Common.{◌≡◌, ◌∙◌, ◌+◌, ◌++◌, ◌<◌, ◌≤◌, ℕ, zero, suc, List, [], ◌∷◌, length, get_or, map, take, drop, append_assoc, append-nil, add-one, drop-cons, sym, ap, arith}
use Rattle.std.proofs.Math.ListN.{get_or-map}
use Rattle.std.proofs.Math.Seq.{drop-nil}
use Rattle.std.proofs.lemmas.List.{length-map, take_more}
use Rattle.std.proofs.lemmas.Grind.{flat_map-append}
use Rattle.cell_types.specs.declared.column.Column.{Column}
use Rattle.cell_types.specs.Column.{ColumnOf, column_view}
use Rattle.block_summary.specs.Ranges.{column_of, range_of}
use Rattle.table_store.specs.Table.{TableOf}
use Rattle.catalog_sheet.specs.Show.{column_line, column_lines, is_of_key, table_text, tables_text}

-- ---- columns

views_at : (xs : List Column) (col : ℕ) (x : Column) → col < length xs → x ≡ get_or xs col x
    → drop col (map column_view xs) ≡ column_view x ∷ drop (col + 1) (map column_view xs)
views_at xs col x less at =
    let within : col < length (map column_view xs) = rw (length-map xs column_view) less in
    rw add-one (drop-cons (map column_view xs) col (column_view x) within
    ∙ ap (λ (y : ColumnOf). y ∷ drop (suc col) (map column_view xs)) (get_or-map column_view xs col x ∙ ap column_view (sym at)))

-- the columns from a place on
columns_at : (columns : List ColumnOf) (xs : List Column) (col : ℕ) (x : Column) → map column_view xs ≡ columns → col < length xs → x ≡ get_or xs col x
    → drop col columns ≡ column_view x ∷ drop (col + 1) columns
columns_at columns xs col x same less at = rw (← same) (views_at xs col x less at)

-- the line of one more column
pub lines-step : (table : TableOf) (xs : List Column) (col : ℕ) (x : Column) (old new whole : List ℕ)
    → map column_view xs ≡ table.schema.columns → col < length xs → x ≡ get_or xs col x
    → new ≡ old ++ column_line (column_view x) (range_of (column_of table.rows col)) (is_of_key table.schema.key col)
    → old ++ column_lines table col (drop col table.schema.columns) ≡ whole
    → new ++ column_lines table (col + 1) (drop (col + 1) table.schema.columns) ≡ whole
lines-step table xs col x old new whole same less at e before =
    let rest : List ℕ = column_lines table (col + 1) (drop (col + 1) table.schema.columns) in
    let line : List ℕ = column_line (column_view x) (range_of (column_of table.rows col)) (is_of_key table.schema.key col) in
    ap (λ (ns : List ℕ). ns ++ rest) e
    ∙ append_assoc old line rest
    ∙ ap (λ (cs : List ColumnOf). old ++ column_lines table col cs) (sym (columns_at table.schema.columns xs col x same less at))
    ∙ before

-- no column is left
none_left : (columns : List ColumnOf) (n : ℕ) → length columns ≤ n → drop n columns ≡ []
none_left [] n h = drop-nil n
none_left (column ∷ columns) zero h = absurd (omega (arith, h))
none_left (column ∷ columns) (suc n) h = none_left columns n (omega (arith, h))

pub lines-end : (table : TableOf) (xs : List Column) (col : ℕ) (out whole : List ℕ) → map column_view xs ≡ table.schema.columns → length xs ≤ col
    → out ++ column_lines table col (drop col table.schema.columns) ≡ whole → out ≡ whole
lines-end table xs col out whole same end before =
    let past : length (map column_view xs) ≤ col = rw (length-map xs column_view) end in
    sym (append-nil out)
    ∙ ap (λ (cs : List ColumnOf). out ++ column_lines table col cs) (sym (ap (λ (cs : List ColumnOf). drop col cs) (sym same) ∙ none_left (map column_view xs) col past))
    ∙ before

-- ---- tables

-- the lines of one more table
pub tables-more : (tables seen : List TableOf) (i : ℕ) (table : TableOf) (old new : List ℕ) → seen ≡ tables → i < length seen → table ≡ get_or seen i table
    → new ≡ old ++ table_text table → old ≡ tables_text (take i tables) → new ≡ tables_text (take (i + 1) tables)
tables-more tables seen i table old new same less at e before =
    let within : i < length tables = rw (← same) less in
    let here : table ≡ get_or tables i table = rw (← same) at in
    let more : tables_text (take (i + 1) tables) ≡ tables_text (take i tables) ++ table_text table =
    ap tables_text (take_more tables i table within ∙ ap (λ (x : TableOf). take i tables ++ x ∷ []) (sym here))
    ∙ flat_map-append table_text (take i tables) (table ∷ [])
    ∙ ap (λ (xs : List ℕ). tables_text (take i tables) ++ xs) (append-nil (table_text table)) in
    e ∙ ap (λ (ns : List ℕ). ns ++ table_text table) before ∙ sym more
