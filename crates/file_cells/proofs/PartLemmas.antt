-- Crates above may cite this file. The rows of a part, by its columns and row by row.
use Rattle.std.proofs.Common.{◌≡◌, ◌<◌, ◌≤◌, inl, inr, ℕ, zero, suc, ◌+◌, ◌-◌, List, [], ◌∷◌, ◌++◌, length, length-drop, length-append, append-nil, append_assoc, map, drop, take, take-append-drop, min, get_or, Some, None, IfSome, Result, Ok, Err, slice_get, set, refl, ap, sym, subst, ◌∙◌, arith}
use Rattle.std.proofs.lemmas.Bool.{cases_order}
use Rattle.std.proofs.lemmas.List.{drop_at, drop-drop, length-map, length-take, map-append, take_at}
use Rattle.std.proofs.lemmas.Option.{same_Some, slice_get-get_or, slice_get_within}
use Rattle.std.specs.Result.{result_err}
use Rattle.block_summary.specs.Ranges.{column_of}
use Rattle.cell_types.specs.declared.fault.CellFault.{CellFault}
use Rattle.cell_types.specs.Cell.{value_of}
use Rattle.cell_types.specs.Column.{ColumnOf}
use Rattle.cell_types.specs.Value.{CellValue, null}
use Rattle.csv_fields.specs.Rows.{cell_at}
use Rattle.csv_grammar.specs.Raw.{RawField, raw_content, field_of}
use Rattle.csv_fields.specs.Values.{rows_in, values_in, HasValue, HaveValues, AllHaveValues}
use Rattle.column_blocks.specs.ColumnReader.{ReaderOf, reader_at, with_cells, HaveRead}
use Rattle.column_blocks.specs.Parts.{field_cell, part_cells, HasCellFault, PartHasValues}
use Rattle.file_cells.specs.declared.fault.BadCell.{BadCell}
use Rattle.file_cells.specs.Parts.{wrong_in_row, AllColumnsHaveValues, ArePartReadOn, HasPartReader, HavePartReaders, IsFirstBadIn}
use Rattle.file_cells.specs.Rows.{rows_from, row_then, values_from, wrong_of}
use Rattle.file_cells.proofs.InsideLemmas.{length-rows_in}
use Rattle.file_cells.proofs.ReaderLemmas.{slice_get-set_other, slice_get-set_same}
use Rattle.file_cells.proofs.PlaceLemmas.{drop-from_slice_get}
use Rattle.file_cells.proofs.RowLemmas.{rows_from-none, row_then-here, row_then-past, value_then-past}

-- ---- the cells of a column
cell_of_row : (columns : List ColumnOf) (fields : List RawField) (col : ℕ) (column : ColumnOf) → slice_get columns col ≡ Some column
    → get_or (values_in columns fields) col null ≡ field_cell column (slice_get fields col)
cell_of_row [] fields col column e = absurd (cc)
cell_of_row (c ∷ columns) [] col column e = refl
cell_of_row (c ∷ columns) (field ∷ fields) zero column e =
    let same : c ≡ column = cc in
    ap (λ x. field_cell x (Some field)) same
cell_of_row (c ∷ columns) (field ∷ fields) (suc col) column e = cell_of_row columns fields col column e

pub part_column : (columns : List ColumnOf) (rows : List (List RawField)) (col : ℕ) (column : ColumnOf) → slice_get columns col ≡ Some column
    → column_of (rows_in columns rows) col ≡ part_cells column col rows
part_column columns [] col column e = refl
part_column columns (fields ∷ rows) col column e =
    ap (λ cell. cell ∷ column_of (rows_in columns rows) col) (cell_of_row columns fields col column e)
    ∙ ap (λ cells. field_cell column (slice_get fields col) ∷ cells) (part_column columns rows col column e)

-- ---- where each cell has a value, nothing is wrong
row_right : (place : ℕ) (columns : List ColumnOf) (fields : List RawField)
    → ((col : ℕ) (column : ColumnOf) → slice_get columns col ≡ Some column → IfSome (slice_get fields col) (HasValue column))
    → result_err (values_from place columns (map field_of fields)) ≡ None
row_right place [] fields has = refl
row_right place (column ∷ columns) [] has = refl
row_right place (column ∷ columns) (field ∷ fields) has =
    value_then-past place (value_of column (raw_content field)) (values_from (place + 1) columns (map field_of fields)) (ap result_err (has 0 column refl))
    ∙ row_right (place + 1) columns fields (λ col c e. has (suc col) c e)

pub rows_right : (first : ℕ) (columns : List ColumnOf) (rows rest : List (List RawField)) → AllColumnsHaveValues columns rows
    → wrong_of first columns (rows ++ rest) ≡ wrong_of (first + length rows) columns rest
rows_right first columns [] rest has =
    let same : first ≡ first + 0 = omega arith in
    ap (λ k. wrong_of k columns rest) same
rows_right first columns (fields ∷ rows) rest has =
    let same : first + 1 + length rows ≡ first + suc (length rows) = omega arith in
    row_then-past first (values_from 0 columns (map field_of fields)) _ (row_right 0 columns fields (λ col column e. (has col column e).0))
    ∙ rows_right (first + 1) columns rows rest (λ col column e. (has col column e).1)
    ∙ ap (λ k. wrong_of k columns rest) same

-- what is wrong with rows is wrong with these and more
wrong_then : (first : ℕ) (values : Result (List CellValue) (ℕ × CellFault)) (rest longer : Result (List (List CellValue)) (ℕ × ℕ × CellFault)) (bad : ℕ × ℕ × CellFault)
    → result_err (row_then first values rest) ≡ Some bad → (result_err rest ≡ Some bad → result_err longer ≡ Some bad) → result_err (row_then first values longer) ≡ Some bad
wrong_then first (Err found) rest longer bad e more = e
wrong_then first (Ok values) (Err later) longer bad e more = row_then-past first (Ok values) longer refl ∙ more e
wrong_then first (Ok values) (Ok rows) longer bad e more = absurd (cc)

pub wrong_front : (first : ℕ) (columns : List ColumnOf) (rows rest : List (List RawField)) (bad : ℕ × ℕ × CellFault)
    → wrong_of first columns rows ≡ Some bad → wrong_of first columns (rows ++ rest) ≡ Some bad
wrong_front first columns [] rest bad e = absurd (cc)
wrong_front first columns (fields ∷ rows) rest bad e =
    wrong_then first (values_from 0 columns (map field_of fields)) (rows_from (first + 1) columns (map (map field_of) rows)) _ bad e
    (wrong_front (first + 1) columns rows rest bad)

-- where nothing is wrong, each cell has a value
value_here : (columns : List ColumnOf) (fields : List RawField) → HaveValues columns fields → (col : ℕ) (column : ColumnOf) → slice_get columns col ≡ Some column
    → IfSome (slice_get fields col) (HasValue column)
value_here [] fields has col column e = absurd (cc)
value_here (c ∷ columns) [] has col column e = tt
value_here (c ∷ columns) (field ∷ fields) has zero column e =
    let same : c ≡ column = cc in
    subst (λ x. HasValue x field) same has.0
value_here (c ∷ columns) (field ∷ fields) has (suc col) column e = value_here columns fields has.1 col column e

pub values_by_column : (columns : List ColumnOf) (rows : List (List RawField)) → AllHaveValues columns rows → AllColumnsHaveValues columns rows
values_by_column columns [] has col column e = tt
values_by_column columns (fields ∷ rows) has col column e = (value_here columns fields has.0 col column e, values_by_column columns rows has.1 col column e)

-- ---- the readers
pub part_readers : (total : ℕ) (columns : List ColumnOf) (rows : List (List CellValue)) (readers : List ReaderOf) (more : ℕ)
    → HaveRead total columns rows readers → length rows + more ≤ total → HavePartReaders columns readers more
part_readers total columns rows readers more have room = record {
  count = have.count;
  each = λ col column reader at is.
      let cells = column_of rows col in
      let size : length cells + more ≤ total = omega (arith, room, length-map rows (λ values. get_or values col null)) in
      let here : HasPartReader column (reader_at total column cells) more = record { kind = refl; room = size } in
      subst (λ r. HasPartReader column r more) (same_Some (reader_at total column cells) reader (sym (have.each col column at) ∙ is)) here;
}

pub part_read_on : (total : ℕ) (columns : List ColumnOf) (rows : List (List CellValue)) (readers new : List ReaderOf) (part : List (List RawField))
    → HaveRead total columns rows readers → ArePartReadOn columns part readers new → HaveRead total columns (rows ++ rows_in columns part) new
part_read_on total columns rows readers new part have on = record {
  count = on.count ∙ have.count;
  each = λ col column at.
      on.each col column (reader_at total column (column_of rows col)) at (have.each col column at)
      ∙ ap (λ cells. Some (reader_at total column cells))
      (ap (λ cells. column_of rows col ++ cells) (sym (part_column columns part col column at))
      ∙ sym (map-append (λ values. get_or values col null) rows (rows_in columns part)));
}

-- the readers have read no rows, or more rows after others
pub part_none : (columns : List ColumnOf) (readers : List ReaderOf) → ArePartReadOn columns [] readers readers
part_none columns readers = record {
  count = refl;
  each = λ col column reader at is. is ∙ ap (λ cells. Some (record reader { cells = cells })) (sym (append-nil reader.cells));
}

pub part_more : (columns : List ColumnOf) (rows more : List (List RawField)) (readers mid new : List ReaderOf)
    → ArePartReadOn columns rows readers mid → ArePartReadOn columns more mid new → ArePartReadOn columns (rows ++ more) readers new
part_more columns rows more readers mid new one two = record {
  count = two.count ∙ one.count;
  each = λ col column reader at is.
      two.each col column (with_cells reader (part_cells column col rows)) at (one.each col column reader at is)
      ∙ ap (λ cells. Some (record reader { cells = cells }))
      (append_assoc reader.cells (part_cells column col rows) (part_cells column col more)
      ∙ ap (λ cells. reader.cells ++ cells) (sym (map-append (λ fields. field_cell column (slice_get fields col)) rows more)));
}

-- they have room for the others
pub part_room : (columns : List ColumnOf) (rows : List (List RawField)) (readers new : List ReaderOf) (total more : ℕ)
    → HavePartReaders columns readers total → ArePartReadOn columns rows readers new → length rows + more ≤ total → HavePartReaders columns new more
part_room columns rows readers new total more have on room = record {
  count = on.count ∙ have.count;
  each = λ col column reader at is.
      let old : ReaderOf = get_or readers col reader in
      let there : slice_get readers col ≡ Some old = slice_get-get_or readers col reader (omega (arith, slice_get_within new col reader is, on.count)) in
      let had = have.each col column old at there in
      let cells = part_cells column col rows in
      let here : HasPartReader column (with_cells old cells) more = record {
        kind = had.kind;
        room = omega (arith, had.room, room, length-append old.cells cells, length-map rows (λ fields. field_cell column (slice_get fields col)));
      } in
      subst (λ r. HasPartReader column r more) (same_Some (with_cells old cells) reader (sym (on.each col column old at there) ∙ is)) here;
}

-- the readers of the columns so far, and of one more
pub part_put : (columns : List ColumnOf) (part : List (List RawField)) (old new : List ReaderOf) (col : ℕ) (reader : ReaderOf) → col < length new
    → ((k : ℕ) (column : ColumnOf) (was : ReaderOf) → k < col → slice_get columns k ≡ Some column → slice_get old k ≡ Some was
    → slice_get new k ≡ Some (with_cells was (part_cells column k part)))
    → ((column : ColumnOf) (was : ReaderOf) → slice_get columns col ≡ Some column → slice_get old col ≡ Some was → reader ≡ with_cells was (part_cells column col part))
    → (k : ℕ) (column : ColumnOf) (was : ReaderOf) → k < col + 1 → slice_get columns k ≡ Some column → slice_get old k ≡ Some was
    → slice_get (set new col reader) k ≡ Some (with_cells was (part_cells column k part))
part_put columns part old new col reader size before here k column was within at is =
    elim (cases_order k col) [
      | inl same ↦
          ap (slice_get (set new col reader)) same ∙ slice_get-set_same new col reader size
          ∙ ap Some (here column was (ap (slice_get columns) (sym same) ∙ at) (ap (slice_get old) (sym same) ∙ is)
          ∙ ap (λ n. with_cells was (part_cells column n part)) (sym same))
      | inr (inl less) ↦ slice_get-set_other new col k reader (λ e. absurd (omega (arith, e, less))) ∙ before k column was less at is
      | inr (inr more) ↦ absurd (omega (arith, more, within))
    ]

pub values_put : (columns : List ColumnOf) (part : List (List RawField)) (col : ℕ)
    → ((k : ℕ) (column : ColumnOf) → k < col → slice_get columns k ≡ Some column → PartHasValues column k part)
    → ((column : ColumnOf) → slice_get columns col ≡ Some column → PartHasValues column col part)
    → (k : ℕ) (column : ColumnOf) → k < col + 1 → slice_get columns k ≡ Some column → PartHasValues column k part
values_put columns part col before here k column within at =
    elim (cases_order k col) [
      | inl same ↦ subst (λ n. PartHasValues column n part) (sym same) (here column (ap (slice_get columns) (sym same) ∙ at))
      | inr (inl less) ↦ before k column less at
      | inr (inr more) ↦ absurd (omega (arith, more, within))
    ]

-- ---- a cell of the part
value_at_row : (column : ColumnOf) (col row : ℕ) (rows : List (List RawField)) (field : RawField) → PartHasValues column col rows → cell_at rows row col ≡ Some field
    → HasValue column field
value_at_row column col row [] field has e = absurd (cc)
value_at_row column col zero (fields ∷ rows) field has e = subst (λ f. IfSome f (HasValue column)) e has.0
value_at_row column col (suc row) (fields ∷ rows) field has e = value_at_row column col row rows field has.1 e

-- where each has a value, none has a fault
pub no_fault : (column : ColumnOf) (col : ℕ) (rows : List (List RawField)) (fault : CellFault) → PartHasValues column col rows → HasCellFault column col rows fault → ⊥
no_fault column col rows fault has bad =
    let value = value_at_row column col bad.row rows bad.field has bad.at in
    let both = sym value ∙ bad.why in
    cc

-- a field of a row of the part
pub cell_field : (rows : List (List RawField)) (row col : ℕ) (field : RawField) → cell_at rows row col ≡ Some field → slice_get (get_or rows row []) col ≡ Some field
cell_field [] row col field e = absurd (cc)
cell_field (fields ∷ rows) zero col field e = e
cell_field (fields ∷ rows) (suc row) col field e = cell_field rows row col field e

-- past a row in which nothing is wrong
pub wrong_of-past : (first row : ℕ) (columns : List ColumnOf) (rows : List (List RawField)) → row < length rows
    → wrong_in_row columns (get_or rows row []) ≡ None → wrong_of (first + row) columns (drop row rows) ≡ wrong_of (first + (row + 1)) columns (drop (row + 1) rows)
wrong_of-past first row columns rows within none =
    let next : first + row + 1 ≡ first + (row + 1) = omega arith in
    ap (wrong_of (first + row) columns) (drop-from_slice_get rows row (get_or rows row []) (slice_get-get_or rows row [] within))
    ∙ row_then-past (first + row) (values_from 0 columns (map field_of (get_or rows row []))) _ none
    ∙ ap (λ k. wrong_of k columns (drop (row + 1) rows)) next

-- and at one in which something is
pub wrong_of-here : (first row : ℕ) (columns : List ColumnOf) (rows : List (List RawField)) (col : ℕ) (fault : CellFault) → row < length rows
    → wrong_in_row columns (get_or rows row []) ≡ Some (col, fault) → wrong_of (first + row) columns (drop row rows) ≡ Some (first + row, col, fault)
wrong_of-here first row columns rows col fault within found =
    ap (wrong_of (first + row) columns) (drop-from_slice_get rows row (get_or rows row []) (slice_get-get_or rows row [] within))
    ∙ row_then-here (first + row) (values_from 0 columns (map field_of (get_or rows row []))) _ col fault found

-- ---- the part that is next
pub record HasPart (rows : List (List RawField)) (first : ℕ) (part left : List (List RawField)) : Type 0 where
  pub whole : drop first rows ≡ part ++ left
  pub size : first + length part ≤ length rows
  pub some : first < length rows → 0 < length part
  pub behind : left ≡ drop (first + length part) rows

pub has_part : (rows was part left : List (List RawField)) (first most : ℕ) → first ≤ length rows → 0 < most → was ≡ drop first rows → part ≡ take most was
    → left ≡ drop most was → HasPart rows first part left
has_part rows was part left first most within some is e f =
    let whole : was ≡ part ++ left = sym (take-append-drop most was) ∙ ap (λ p. p ++ drop most was) (sym e) ∙ ap (λ l. part ++ l) (sym f) in
    let size : length was ≡ length rows - first = ap length is ∙ length-drop first rows in
    let count : length part ≡ min most (length was) = ap length e ∙ length-take most was in record {
      whole = sym is ∙ whole;
      size = omega (arith, size, count, within);
      some = λ more. omega (arith, size, count, more, some);
      behind = sym (drop_at part left (length part) refl) ∙ ap (drop (length part)) (sym whole ∙ is) ∙ drop-drop (length part) first rows;
    }

-- the rows before it, and its own
pub rows_more : (rows part left : List (List RawField)) (first : ℕ) → drop first rows ≡ part ++ left → first ≤ length rows
    → take (first + length part) rows ≡ take first rows ++ part
rows_more rows part left zero e within =
    let front : 0 + length part ≡ length part = omega arith in
    rw front (ap (take (length part)) e ∙ take_at part left (length part) refl)
rows_more [] part left (suc first) e within = absurd (omega arith)
rows_more (fields ∷ rows) part left (suc first) e within =
    let more : suc first + length part ≡ suc (first + length part) = omega arith in
    rw more (ap (λ rs. fields ∷ rs) (rows_more rows part left first e (omega arith)))

-- ---- rows after rows
-- where nothing is wrong with rows, that is wrong which is wrong with those after them
pub wrong_append : (first : ℕ) (columns : List ColumnOf) (rows rest : List (List RawField)) → wrong_of first columns rows ≡ None
    → wrong_of first columns (rows ++ rest) ≡ wrong_of (first + length rows) columns rest
wrong_append first columns rows rest right =
    rows_right first columns rows rest (values_by_column columns rows (rows_from-none first columns rows right).0)

pub bad_after : (first : ℕ) (columns : List ColumnOf) (rows more : List (List RawField)) (bad : BadCell) → wrong_of first columns rows ≡ None
    → IsFirstBadIn (first + length rows) columns more bad → IsFirstBadIn first columns (rows ++ more) bad
bad_after first columns rows more bad right (inl memory) = inl memory
bad_after first columns rows more bad right (inr is) = inr (wrong_append first columns rows more right ∙ is)
