-- How far the loading of a folder has come.
use Rattle.std.specs.Prelude.{◌≡◌, ℕ, ◌+◌, ◌-◌, ◌*◌, ◌^◌, ◌<◌, ◌≤◌, Bool, false, List, length, Option, None, IfSome}
use Rattle.std.specs.List.{AllByRecursion}
use Rattle.csv_grammar.specs.Raw.{RawField, RawTable}
use Rattle.csv_index.specs.Index.{IsRawTable}
use Rattle.csvw_meta.specs.Laws.{HasShortDefaults}
use Rattle.csvw_meta.specs.Schema.{SchemaOf, schema_view}
use Rattle.file_cells.specs.declared.file_reading.FileReading.{FileReading}
use Rattle.file_cells.specs.Reading.{reading_left, wants_more, HasColumns, IsReading}
use Rattle.file_cells.specs.Rows.{mismatch_of}
use Rattle.key_index.specs.declared.reading.KeysReading.{KeysReading}
use Rattle.key_index.specs.Reading.{keys_left, AreHeld}
use Rattle.table_store.specs.declared.reading.Stage.{Stage}
use Rattle.table_store.specs.declared.reading.Stage.TheVariants as stages
use Rattle.table_store.specs.declared.reading.StageStep.{StageStep}
use Rattle.table_store.specs.declared.reading.StageStep.TheVariants as stage_steps
use Rattle.table_store.specs.declared.summaries.SummarizedRows.{SummarizedRows}
use Rattle.table_store.specs.declared.table_loading.TableLoading.{TableLoading}
use Rattle.table_store.specs.declared.table_loading.TableStep.{TableStep}
use Rattle.table_store.specs.declared.table_loading.TableStep.TheVariants as table_steps
use Rattle.table_store.specs.Block.{block_count}
use Rattle.table_store.specs.Catalog.{HasFile, HasTable, HasTableCause}
use Rattle.table_store.specs.Fault.{TableCause}
use Rattle.table_store.specs.File.{with_more}
use Rattle.table_store.specs.Loading.{bad_cell_of, ArePartsOf, HasKeyColumns}
use Rattle.table_store.specs.Summaries.{AreFirstRanges}
use Rattle.table_store.specs.Table.{TableOf}

-- the columns of those rows are read, and the keys of the first ones are read
pub record ReadsKeys (schema : SchemaOf) (rows : List (List RawField)) (keys : KeysReading) : Type 0 where
  pub count : keys.rows ≡ length rows
  pub wide : AllByRecursion (λ fields. length fields ≡ length schema.columns) rows
  pub columns : HasColumns schema.columns rows keys.columns.items
  pub held : AreHeld schema.key keys

-- the columns and the keys of those rows are read, in which nothing is wrong, and the first blocks have their summaries
pub record Summarizes (schema : SchemaOf) (rows : List (List RawField)) (read : SummarizedRows) : Type 0 where
  pub right : bad_cell_of schema rows ≡ None
  pub parts : ArePartsOf schema rows read.rows
  pub first : AreFirstRanges read.rows.columns.items read.summaries.items
  pub few : length read.summaries.items ≤ block_count read.rows.rows

-- so have all blocks
pub record HasAllOfRows (schema : SchemaOf) (rows : List (List RawField)) (read : SummarizedRows) : Type 0 where
  pub summarizes : Summarizes schema rows read
  pub all : length read.summaries.items ≡ block_count read.rows.rows

-- no more steps than these are left at a stage: of a file, which has at most 2 to the 30 rows, also those of the later stages, and of the keys one
-- step for each block and one more
abbrev pub stage_left : Stage → ℕ
stage_left (stages.File reading) = reading_left reading + 2 ^ 33
stage_left (stages.Keys keys) = keys_left keys + block_count keys.rows + 1
stage_left (stages.Summaries read) = block_count read.rows.rows - length read.summaries.items

-- more is read of those rows, or all is
abbrev pub RowsReadOn : SchemaOf → List (List RawField) → ℕ → StageStep → Type 0
RowsReadOn schema rows left (stage_steps.On (stages.File new)) = ⊥
RowsReadOn schema rows left (stage_steps.On (stages.Keys new)) = ReadsKeys schema rows new × (stage_left (stages.Keys new) < left)
RowsReadOn schema rows left (stage_steps.On (stages.Summaries new)) = Summarizes schema rows new × (stage_left (stages.Summaries new) < left)
RowsReadOn schema rows left (stage_steps.Over read) = HasAllOfRows schema rows read

-- so much is read of the rows of a file whose header matches the columns
pub record ReadsFile (schema : SchemaOf) (bytes : List ℕ) (Read : List (List RawField) → Type 0) : Type 0 where
  pub short : length bytes ≤ 2 ^ 30
  pub raw : RawTable
  pub is : IsRawTable bytes raw
  pub header_matches : mismatch_of schema.columns raw.header ≡ None
  pub reads : Read raw.rows

-- there is a file, not above the limit, of whose rows so much is read
abbrev pub ReadsTable : ℕ → Option (List ℕ) → SchemaOf → (List (List RawField) → Type 0) → Type 0
ReadsTable limit file schema Read = (bytes : List ℕ) × HasFile limit file bytes × ReadsFile schema bytes Read

-- all is read of some file
abbrev pub IsReadWhole : SchemaOf → SummarizedRows → Type 0
IsReadWhole schema read = (limit : ℕ) × (file : Option (List ℕ)) × ReadsTable limit file schema (λ rows. HasAllOfRows schema rows read)

-- there is a file, not above the limit, whose columns are read, or the keys of whose rows are, or the summaries of whose blocks are made
abbrev pub IsAtStage : ℕ → Option (List ℕ) → SchemaOf → Stage → Type 0
IsAtStage limit file schema (stages.File reading) = (bytes : List ℕ) × HasFile limit file bytes × IsReading schema.columns bytes reading
IsAtStage limit file schema (stages.Keys keys) = ReadsTable limit file schema (λ rows. ReadsKeys schema rows keys)
IsAtStage limit file schema (stages.Summaries read) = ReadsTable limit file schema (λ rows. Summarizes schema rows read)

-- the next step is to have more of the file
abbrev pub stage_wants : Stage → Bool
stage_wants (stages.File reading) = wants_more reading
stage_wants (stages.Keys keys) = false
stage_wants (stages.Summaries read) = false

-- a window more of the file is read, or the columns are, and no key
abbrev pub FileReadsOn : SchemaOf → List ℕ → FileReading → StageStep → Type 0
FileReadsOn schema bytes old (stage_steps.On (stages.File new)) = IsReading schema.columns bytes new × (reading_left new < reading_left old)
FileReadsOn schema bytes old (stage_steps.On (stages.Keys keys)) = ReadsFile schema bytes (λ rows. ReadsKeys schema rows keys) × (keys_left keys ≡ 4 * keys.rows + 5)
FileReadsOn schema bytes old (stage_steps.On (stages.Summaries read)) = ⊥
FileReadsOn schema bytes old (stage_steps.Over read) = ⊥

-- less is left at a stage, or all is read
abbrev pub StageGoesOn : ℕ → Option (List ℕ) → SchemaOf → ℕ → StageStep → Type 0
StageGoesOn limit file schema left (stage_steps.On stage) = IsAtStage limit file schema stage × (stage_left stage < left)
StageGoesOn limit file schema left (stage_steps.Over read) = ReadsTable limit file schema (λ rows. HasAllOfRows schema rows read)

-- what a step makes of each file of which so much is read, and of which it refuses the table under this cause, where there is one
abbrev pub StageStepsOn : SchemaOf → Stage → StageStep → Type 0
StageStepsOn schema stage step = (limit : ℕ) (file : Option (List ℕ)) → IsAtStage limit file schema stage → StageGoesOn limit file schema (stage_left stage) step

abbrev pub RefusesStage : SchemaOf → Stage → Option TableCause → Type 0
RefusesStage schema stage cause = (limit : ℕ) (file : Option (List ℕ)) → IsAtStage limit file schema stage → IfSome cause (HasTableCause limit file schema)

-- that is the table of each file of which all is read so
abbrev pub IsTableOfRows : SchemaOf → SummarizedRows → TableOf → Type 0
IsTableOfRows schema read table = (limit : ℕ) (file : Option (List ℕ)) → ReadsTable limit file schema (λ rows. HasAllOfRows schema rows read) → HasTable limit file schema table

-- the table of a schema is read
pub record LoadsTable (limit : ℕ) (file : Option (List ℕ)) (schema : SchemaOf) (loading : TableLoading) : Type 0 where
  pub of_schema : schema_view loading.schema ≡ schema
  pub keys : HasKeyColumns schema
  pub defaults : HasShortDefaults schema
  pub reads : IsAtStage limit file schema loading.stage

-- some table is read so
abbrev pub IsLoadingTable : TableLoading → Type 0
IsLoadingTable loading = (limit : ℕ) × (file : Option (List ℕ)) × (schema : SchemaOf) × LoadsTable limit file schema loading

-- what a step makes of each table that is read so: less of it is left, or it is read
abbrev pub TableGoesOn : ℕ → Option (List ℕ) → SchemaOf → ℕ → TableStep → Type 0
TableGoesOn limit file schema left (table_steps.On loading) = LoadsTable limit file schema loading × (stage_left loading.stage < left)
TableGoesOn limit file schema left (table_steps.Over table) = HasTable limit file schema table

abbrev pub TableStepsOn : TableLoading → TableStep → Type 0
TableStepsOn loading step = (limit : ℕ) (file : Option (List ℕ)) (schema : SchemaOf) → LoadsTable limit file schema loading
    → TableGoesOn limit file schema (stage_left loading.stage) step

-- of each table that is read so the file has these bytes more
abbrev pub FeedsOn : ℕ → List ℕ → TableLoading → TableLoading → Type 0
FeedsOn limit bytes old new = (file : Option (List ℕ)) (schema : SchemaOf) → LoadsTable limit file schema old
    → LoadsTable limit (with_more bytes file) schema new × (stage_left new.stage < stage_left old.stage)
