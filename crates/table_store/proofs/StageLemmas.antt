-- Crates above may cite this file. One step more of the loading of a table.
use Rattle.std.proofs.Common.{◌≡◌, ℕ, ◌≤◌, ◌^◌, List, [], All, length, IfSome, Option, None, ap, sym, subst, ◌∙◌, arith}
use Rattle.std.specs.List.{AllByRecursion}
use Rattle.std.proofs.lemmas.Option.{IfSome_then}
use Rattle.csv_grammar.specs.Raw.{RawField}
use Rattle.csvw_meta.specs.Schema.{schema_view, SchemaOf}
use Rattle.csv_fields.specs.Values.{rows_in}
use Rattle.key_index.specs.Key.{key_index}
use Rattle.key_index.specs.Keys.{typed_keys}
use Rattle.key_index.specs.Reading.{AreHeld}
use Rattle.key_index.specs.declared.reading.KeyedRows.{KeyedRows}
use Rattle.key_index.specs.declared.reading.KeysReading.{KeysReading}
use Rattle.column_blocks.specs.TypedColumn.{AreTyped, ColumnCells}
use Rattle.file_cells.specs.declared.file_reading.FileCells.{FileCells}
use Rattle.file_cells.specs.declared.file_reading.FileReading.{FileReading}
use Rattle.file_cells.specs.Reading.{HasCellsOf, HasColumns, IsReading}
use Rattle.file_cells.proofs.HeaderLemmas.{header_fits}
use Rattle.table_store.specs.declared.reading.Stage.{Stage}
use Rattle.table_store.specs.declared.reading.Stage.TheVariants as stages
use Rattle.table_store.specs.declared.reading.StageStep.{StageStep}
use Rattle.table_store.specs.declared.reading.StageStep.TheVariants as stage_steps
use Rattle.table_store.specs.declared.summaries.SummarizedRows.{SummarizedRows}
use Rattle.table_store.specs.declared.table_loading.TableLoading.{TableLoading}
use Rattle.table_store.specs.Catalog.{HasFile, HasTableCause}
use Rattle.table_store.specs.Fault.{TableCause, file_missing, file_too_large, bad_text, bad_header, bad_cell, key_null, key_twice}
use Rattle.table_store.specs.Loading.{bad_cell_of, keys_at, ArePartsOf, HasFileCause, HasRowsCause}
use Rattle.table_store.specs.Steps.{stage_left, FileReadsOn, HasAllOfRows, IsAtStage, LoadsTable, ReadsFile, ReadsKeys, ReadsTable, RowsReadOn, StageGoesOn, Summarizes}
use Rattle.table_store.specs.Summaries.{AreFirstRanges, SummarizesOn}
use Rattle.table_store.proofs.ColumnLemmas.{kept_lengths, typed-keys, typed-rows}
use Rattle.csv_windows.proofs.CountLemmas.{rows-within}
use Rattle.file_cells.proofs.InsideLemmas.{length-rows_in, rows-wide}
use Rattle.table_store.proofs.LoadingLemmas.{rows_cause}

-- the keys of the columns of rows are those of the rows
pub keys_read : (schema : SchemaOf) (raws : List (List RawField)) (n : ℕ) (typed : List ColumnCells) → n ≡ length raws
    → AllByRecursion (λ fields. length fields ≡ length schema.columns) raws → AreTyped schema.columns (rows_in schema.columns raws) typed
    → typed_keys schema.key typed n ≡ keys_at schema raws
keys_read schema raws n typed count wide are =
    typed-keys schema.key typed n
    ∙ ap (key_index schema.key)
    (typed-rows schema.columns (rows_in schema.columns raws) typed n (count ∙ sym (length-rows_in schema.columns raws)) (rows-wide schema.columns raws wide) are)

-- what is wrong with a file is what is wrong with its table
file_refused : (limit : ℕ) (file : Option (List ℕ)) (schema : SchemaOf) (bytes : List ℕ) (cause : TableCause) → HasFile limit file bytes → HasFileCause schema bytes cause
    → HasTableCause limit file schema cause
file_refused limit file schema bytes file_missing has wrong = absurd wrong
file_refused limit file schema bytes file_too_large has wrong = absurd wrong
file_refused limit file schema bytes (bad_text fault) has wrong = (bytes, has, wrong)
file_refused limit file schema bytes (bad_header place) has wrong = (bytes, has, wrong)
file_refused limit file schema bytes (bad_cell row col fault) has wrong = (bytes, has, wrong)
file_refused limit file schema bytes (key_null row) has wrong = (bytes, has, wrong)
file_refused limit file schema bytes (key_twice row) has wrong = (bytes, has, wrong)

pub rows_refused : (limit : ℕ) (file : Option (List ℕ)) (schema : SchemaOf) (Read : List (List RawField) → Type 0) (cause : Option TableCause) → (reads : ReadsTable limit file schema Read)
    → IfSome cause (HasRowsCause schema reads.2.raw.rows) → IfSome cause (HasTableCause limit file schema)
rows_refused limit file schema Read cause reads wrong =
    IfSome_then cause wrong (λ cause wrong. file_refused limit file schema reads.0 cause reads.1
    (rows_cause schema reads.0 reads.2.raw cause reads.2.is reads.2.header_matches wrong))

pub columns_refused : (limit : ℕ) (file : Option (List ℕ)) (schema : SchemaOf) (reading : FileReading) (cause : Option TableCause) → (at : IsAtStage limit file schema (stages.File reading))
    → IfSome cause (HasFileCause schema at.0) → IfSome cause (HasTableCause limit file schema)
columns_refused limit file schema reading cause at wrong = IfSome_then cause wrong (λ cause wrong. file_refused limit file schema at.0 cause at.1 wrong)

-- the rows of the file are few
pub few_rows : (limit : ℕ) (file : Option (List ℕ)) (schema : SchemaOf) (Read : List (List RawField) → Type 0) → (reads : ReadsTable limit file schema Read) → length reads.2.raw.rows ≤ 2 ^ 30
few_rows limit file schema Read reads = omega (arith, rows-within reads.0 reads.2.raw reads.2.is, reads.2.short)

-- of the same file something else is read
read_as : (limit : ℕ) (file : Option (List ℕ)) (schema : SchemaOf) (Read More : List (List RawField) → Type 0) → (reads : ReadsTable limit file schema Read) → More reads.2.raw.rows
    → ReadsTable limit file schema More
read_as limit file schema Read More reads more = (
  reads.0,
  reads.1,
  record { short = reads.2.short; raw = reads.2.raw; is = reads.2.is; header_matches = reads.2.header_matches; reads = more },
)

-- ---- the next stage
pub stage_of_file : (limit : ℕ) (file : Option (List ℕ)) (schema : SchemaOf) (old : FileReading) (step : StageStep) → IsAtStage limit file schema (stages.File old)
    → ((given : List ℕ) → IsReading schema.columns given old → FileReadsOn schema given old step) → StageGoesOn limit file schema (stage_left (stages.File old)) step
stage_of_file limit file schema old (stage_steps.On (stages.File new)) at on = let next = on at.0 at.2 in ((at.0, at.1, next.0), omega (arith, next.1))
stage_of_file limit file schema old (stage_steps.On (stages.Keys keys)) at on =
    let next = on at.0 at.2 in
    let reads = next.0 in ((at.0, at.1, reads), omega (arith, next.1, reads.reads.count, rows-within at.0 reads.raw reads.is, reads.short))
stage_of_file limit file schema old (stage_steps.On (stages.Summaries read)) at on = absurd (on at.0 at.2)
stage_of_file limit file schema old (stage_steps.Over read) at on = absurd (on at.0 at.2)

-- the columns are read, and no key
pub keys_begun : (schema : SchemaOf) (bytes : List ℕ) (read : FileCells) (keys : KeysReading) → length bytes ≤ 2 ^ 30 → HasCellsOf schema.columns bytes read → keys.rows ≡ read.rows
    → keys.columns.items ≡ read.columns.items → AreHeld schema.key keys → ReadsFile schema bytes (λ rows. ReadsKeys schema rows keys)
keys_begun schema bytes read keys short has same columns held = record {
  short = short;
  raw = has.raw;
  is = has.is;
  header_matches = has.header_matches;
  reads = record {
    count = same ∙ has.count;
    wide = (header_fits schema.columns bytes has.raw has.is has.header_matches).rows;
    columns = subst (HasColumns schema.columns has.raw.rows) (sym columns) has.cells;
    held = held;
  };
}

pub stage_of_rows : (limit : ℕ) (file : Option (List ℕ)) (schema : SchemaOf) (Read : List (List RawField) → Type 0) (left : ℕ) (step : StageStep)
    → (reads : ReadsTable limit file schema Read) → ((rows : List (List RawField)) → Read rows → RowsReadOn schema rows left step)
    → StageGoesOn limit file schema left step
stage_of_rows limit file schema Read left (stage_steps.On (stages.File reading)) reads on = absurd (on reads.2.raw.rows reads.2.reads)
stage_of_rows limit file schema Read left (stage_steps.On (stages.Keys new)) reads on =
    let next = on reads.2.raw.rows reads.2.reads in
    (read_as limit file schema Read (λ rows. ReadsKeys schema rows new) reads next.0, next.1)
stage_of_rows limit file schema Read left (stage_steps.On (stages.Summaries new)) reads on =
    let next = on reads.2.raw.rows reads.2.reads in
    (read_as limit file schema Read (λ rows. Summarizes schema rows new) reads next.0, next.1)
stage_of_rows limit file schema Read left (stage_steps.Over read) reads on =
    read_as limit file schema Read (λ rows. HasAllOfRows schema rows read) reads (on reads.2.raw.rows reads.2.reads)

-- no block has its summary
pub summaries_begun : (schema : SchemaOf) (rows : List (List RawField)) (keyed : KeyedRows) (new : SummarizedRows) → new.rows ≡ keyed → new.summaries.items ≡ []
    → bad_cell_of schema rows ≡ None → ArePartsOf schema rows keyed → Summarizes schema rows new
summaries_begun schema rows keyed new same none right parts = record {
  right = right;
  parts = subst (ArePartsOf schema rows) (sym same) parts;
  first = subst (AreFirstRanges new.rows.columns.items) (sym none) (λ number within. absurd (omega (arith, within)));
  few = omega (arith, ap length none);
}

-- more blocks have theirs
pub summaries_more : (schema : SchemaOf) (rows : List (List RawField)) (old new : SummarizedRows) → Summarizes schema rows old → SummarizesOn old new → Summarizes schema rows new
summaries_more schema rows old new reads on =
    record { right = reads.right; parts = subst (ArePartsOf schema rows) (sym on.rows) reads.parts; first = on.first; few = on.few }

-- each column has a cell for each row
pub all_of_rows : (schema : SchemaOf) (rows : List (List RawField)) (keyed : KeyedRows) → ArePartsOf schema rows keyed
    → All (λ (column : ColumnCells). length column.cells ≡ keyed.rows) keyed.columns.items
all_of_rows schema rows keyed parts =
    let size : length (rows_in schema.columns rows) ≡ keyed.rows = length-rows_in schema.columns rows ∙ sym parts.count in
    rw size at (kept_lengths schema.columns (rows_in schema.columns rows) keyed.columns.items parts.columns)

pub few_keys : (limit : ℕ) (file : Option (List ℕ)) (schema : SchemaOf) (keys : KeysReading) → IsAtStage limit file schema (stages.Keys keys) → keys.rows ≤ 2 ^ 30
few_keys limit file schema keys at = omega (arith, few_rows limit file schema (λ rows. ReadsKeys schema rows keys) at, at.2.reads.count)

pub few_read : (limit : ℕ) (file : Option (List ℕ)) (schema : SchemaOf) (read : SummarizedRows) → IsAtStage limit file schema (stages.Summaries read) → read.rows.rows ≤ 2 ^ 30
few_read limit file schema read at = omega (arith, few_rows limit file schema (λ rows. Summarizes schema rows read) at, at.2.reads.parts.count)

-- ---- the table
pub at_stage : (limit : ℕ) (file : Option (List ℕ)) (schema : SchemaOf) (loading : TableLoading) → LoadsTable limit file schema loading
    → IsAtStage limit file (schema_view loading.schema) loading.stage
at_stage limit file schema loading loads = subst (λ s. IsAtStage limit file s loading.stage) (sym loads.of_schema) loads.reads

pub loads_on : (limit : ℕ) (file : Option (List ℕ)) (schema : SchemaOf) (loading : TableLoading) (stage : Stage) → IsAtStage limit file (schema_view loading.schema) stage
    → LoadsTable limit file schema loading → LoadsTable limit file schema (record { schema = loading.schema; stage = stage })
loads_on limit file schema loading stage at loads = record {
  of_schema = loads.of_schema;
  keys = loads.keys;
  defaults = loads.defaults;
  reads = subst (λ s. IsAtStage limit file s stage) loads.of_schema at;
}
