-- The readers of columns, of which those of the key's columns have all cells.
use Rattle.std.proofs.Common.{◌≡◌, ◌<◌, ◌≤◌, ℕ, zero, suc, ◌+◌, ◌==◌, Bool, true, false, List, [], ◌∷◌, ◌++◌, length, length-append, length-set, map, get_or, set, slice_set, Option, Some, slice_get, refl, ap, sym, subst, ◌∙◌, inl, inr, arith}
use Rattle.std.specs.List.{list_any}
use Rattle.std.proofs.lemmas.Bool.{cases_order}
use Rattle.std.proofs.lemmas.List.{length-map, map-append}
use Rattle.std.proofs.lemmas.Option.{same_Some}
use Rattle.block_summary.specs.Ranges.{column_of}
use Rattle.cell_types.specs.Column.{ColumnOf}
use Rattle.cell_types.specs.Value.{CellValue, null}
use Rattle.csv_fields.specs.Values.{rows_in}
use Rattle.csv_grammar.specs.Raw.{RawField}
use Rattle.column_blocks.specs.ColumnReader.{reader_at, ReaderOf}
use Rattle.column_blocks.specs.Parts.{part_cells}
use Rattle.csvw_meta.specs.Schema.{SchemaOf}
use Rattle.file_cells.specs.Cells.{most_rows}
use Rattle.file_cells.specs.Parts.{ArePartReadOn, HasPartReader, HavePartReaders}
use Rattle.file_cells.proofs.PartLemmas.{part_column}
use Rattle.file_cells.proofs.ReaderLemmas.{read_start, slice_get-set_other, slice_get-set_same}
use Rattle.folder_checks.specs.Cells.{AreKept, KeepsCells}

-- readers that have read nothing
pub kept_start : (schema : SchemaOf) (readers : List ReaderOf) → readers ≡ map (λ column. reader_at most_rows column []) schema.columns → AreKept schema [] readers
kept_start schema readers e =
    let begun = read_start most_rows schema.columns readers e in record {
      count = begun.count;
      each = λ col column at. record { cells = []; is = begun.each col column at; few = omega arith; whole = λ is. refl };
    }

-- they have room for more rows
pub kept_readers : (schema : SchemaOf) (rows : List (List CellValue)) (readers : List ReaderOf) (more : ℕ) → AreKept schema rows readers → length rows + more ≤ most_rows
    → HavePartReaders schema.columns readers more
kept_readers schema rows readers more kept room = record {
  count = kept.count;
  each = λ col column reader at is.
      let had = kept.each col column at in
      let here : HasPartReader column (reader_at most_rows column had.cells) more = record { kind = refl; room = omega (arith, had.few, room) } in
      subst (λ r. HasPartReader column r more) (same_Some (reader_at most_rows column had.cells) reader (sym had.is ∙ is)) here;
}

-- and read them
pub kept_more : (schema : SchemaOf) (rows : List (List CellValue)) (part : List (List RawField)) (readers new : List ReaderOf) → AreKept schema rows readers
    → ArePartReadOn schema.columns part readers new → AreKept schema (rows ++ rows_in schema.columns part) new
kept_more schema rows part readers new kept on = record {
  count = on.count ∙ kept.count;
  each = λ col column at.
      let had = kept.each col column at in
      let cells = part_cells column col part in
      let more = rows_in schema.columns part in
      let same : column_of more col ≡ cells = part_column schema.columns part col column at in
      record {
        cells = had.cells ++ cells;
        is = on.each col column (reader_at most_rows column had.cells) at had.is;
        few = omega (
          arith,
          had.few,
          length-append had.cells cells,
          length-append rows more,
          ap length same,
          length-map more (λ values. get_or values col null),
        );
        whole = λ is.
            ap (λ l. l ++ cells) (had.whole is) ∙ ap (λ l. column_of rows col ++ l) (sym same)
            ∙ sym (map-append (λ values. get_or values col null) rows more);
      };
}

-- ---- one that has read nothing in the place of another
-- the last of new readers
pub last_fresh : (columns : List ColumnOf) (fresh left : List ReaderOf) (reader : ReaderOf)
    → ((k : ℕ) (column : ColumnOf) → k < length fresh → slice_get columns k ≡ Some column → slice_get fresh k ≡ Some (reader_at most_rows column []))
    → fresh ≡ left ++ reader ∷ [] → (column : ColumnOf) → slice_get columns (length left) ≡ Some column → reader ≡ reader_at most_rows column []
last_fresh columns fresh left reader are e column at =
    let within : length left < length fresh = omega (arith, ap length e, length-append left (reader ∷ [])) in
    same_Some reader (reader_at most_rows column []) (sym (last left) ∙ ap (λ l. slice_get l (length left)) (sym e) ∙ are (length left) column within at)
  where
    last : (l : List ReaderOf) → slice_get (l ++ reader ∷ []) (length l) ≡ Some reader
    last [] = refl
    last (x ∷ l) = last l

pub fresh_left : (columns : List ColumnOf) (fresh left : List ReaderOf) (reader : ReaderOf)
    → ((k : ℕ) (column : ColumnOf) → k < length fresh → slice_get columns k ≡ Some column → slice_get fresh k ≡ Some (reader_at most_rows column []))
    → fresh ≡ left ++ reader ∷ []
    → (k : ℕ) (column : ColumnOf) → k < length left → slice_get columns k ≡ Some column → slice_get left k ≡ Some (reader_at most_rows column [])
fresh_left columns fresh left reader are e k column within at =
    sym (front left k within) ∙ ap (λ l. slice_get l k) (sym e) ∙ are k column (omega (arith, within, ap length e, length-append left (reader ∷ []))) at
  where
    front : (l : List ReaderOf) (i : ℕ) → i < length l → slice_get (l ++ reader ∷ []) i ≡ slice_get l i
    front [] i h = absurd (omega arith)
    front (x ∷ l) zero h = refl
    front (x ∷ l) (suc i) h = front l i (omega arith)

-- a column that is not in the key may be read anew
put_here : (key : List ℕ) (rows : List (List CellValue)) (col : ℕ) (column : ColumnOf) (reader : ReaderOf) (found : Option ReaderOf) → found ≡ Some reader
    → reader ≡ reader_at most_rows column [] → list_any (λ place. place == col) key ≡ false → KeepsCells key rows col column found
put_here key rows col column reader found e is not = record {
  cells = [];
  is = e ∙ ap Some is;
  few = omega arith;
  whole = λ has. let both : true ≡ false = sym has ∙ not in absurd (cc);
}

pub kept_put : (schema : SchemaOf) (rows : List (List CellValue)) (readers : List ReaderOf) (col : ℕ) (reader : ReaderOf) → AreKept schema rows readers → col < length readers
    → list_any (λ place. place == col) schema.key ≡ false
    → ((column : ColumnOf) → slice_get schema.columns col ≡ Some column → reader ≡ reader_at most_rows column []) → AreKept schema rows (set readers col reader)
kept_put schema rows readers col reader kept within not fresh = record {
  count = length-set readers col reader ∙ kept.count;
  each = λ k column at.
      elim (cases_order k col) [
        | inl same ↦
            subst (λ n. KeepsCells schema.key rows n column (slice_get (set readers col reader) n)) (sym same)
            (put_here schema.key rows col column reader _ (slice_get-set_same readers col reader within) (fresh column (ap (slice_get schema.columns) (sym same) ∙ at)) not)
        | inr (inl less) ↦ subst (KeepsCells schema.key rows k column) (sym (slice_get-set_other readers col k reader (λ e. absurd (omega (arith, e, less))))) (kept.each k column at)
        | inr (inr more) ↦ subst (KeepsCells schema.key rows k column) (sym (slice_get-set_other readers col k reader (λ e. absurd (omega (arith, e, more))))) (kept.each k column at)
      ];
}

-- with the last of new readers in its place, if the column is not in the key
pub kept_next : (schema : SchemaOf) (rows : List (List CellValue)) (readers new : List ReaderOf) (col : ℕ) (reader : ReaderOf) → AreKept schema rows readers → col < length readers
    → (list_any (λ place. place == col) schema.key ≡ true → new ≡ readers) → (list_any (λ place. place == col) schema.key ≡ false → new ≡ slice_set readers col reader)
    → ((column : ColumnOf) → slice_get schema.columns col ≡ Some column → reader ≡ reader_at most_rows column []) → AreKept schema rows new
kept_next schema rows readers new col reader kept within stays put fresh = by_key (list_any (λ place. place == col) schema.key) refl
  where
    by_key : (is : Bool) → list_any (λ place. place == col) schema.key ≡ is → AreKept schema rows new
    by_key true e = subst (AreKept schema rows) (sym (stays e)) kept
    by_key false e = subst (AreKept schema rows) (sym (put e)) (kept_put schema rows readers col reader kept within e fresh)
