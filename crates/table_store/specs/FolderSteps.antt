-- How far the loading of a folder has come.
use Rattle.std.specs.Prelude.{◌≡◌, ℕ, ◌+◌, ◌*◌, ◌^◌, ◌<◌, false, List, [], ◌∷◌, ◌++◌, length, map, Option, None, Some, IfSome, Ok, if◌then◌else◌, string_bytes}
use Rattle.std.specs.List.{AllByRecursion}
use Rattle.std.specs.Str.{bytes_eq}
use Rattle.std.specs.VecDeque.{deque_len}
use Rattle.csvw_meta.specs.Laws.{HasShortDefaults}
use Rattle.csvw_meta.specs.Limits.{limits_view}
use Rattle.csvw_meta.specs.Schema.{SchemaOf, schema_view}
use Rattle.table_store.specs.declared.file.FileStart.{FileStart}
use Rattle.table_store.specs.declared.file.NamedFile.{NamedFile}
use Rattle.table_store.specs.declared.folder_loading.Loaded.{Loaded}
use Rattle.table_store.specs.declared.folder_loading.Loaded.TheVariants as steps
use Rattle.table_store.specs.declared.folder_loading.Loading.{Loading}
use Rattle.table_store.specs.declared.table_loading.TableLoading.{TableLoading}
use Rattle.table_store.specs.Catalog.{schemas_in, FolderOf, HaveTables, Means}
use Rattle.table_store.specs.File.{file_named, files_view, with_more, FileOf, IsSuchFile}
use Rattle.table_store.specs.Loading.{DifferInUrl, HasKeyColumns}
use Rattle.table_store.specs.Steps.{stage_left, stage_wants, LoadsTable}

-- each of these schemas has the file that it had
abbrev pub HaveFiles : List FileOf → List FileOf → List SchemaOf → Type 0
HaveFiles files now schemas = AllByRecursion (λ (schema : SchemaOf). file_named schema.url now ≡ file_named schema.url files) schemas

-- the tables of the first schemas are read, and the others are to come, of which the first may be under way: of its file the folder has what was given
abbrev pub AreReadInTurn : FolderOf → List SchemaOf → List SchemaOf → List SchemaOf → Option TableLoading → Type 0
AreReadInTurn folder schemas read coming None = read ++ coming ≡ schemas
AreReadInTurn folder schemas read coming (Some table) = (schema : SchemaOf) × (read ++ schema ∷ coming ≡ schemas)
    × LoadsTable folder.limits.file (file_named schema.url folder.files) schema table

-- the schemas that are to come
abbrev pub coming_schemas : Loading → List SchemaOf
coming_schemas loading = map schema_view loading.schemas.items

-- the folder is loaded
pub record Loads (folder : FolderOf) (loading : Loading) : Type 0 where
  pub limits : limits_view loading.limits ≡ folder.limits
  pub schemas : List SchemaOf
  pub metadata : schemas_in folder ≡ Some (Ok schemas)
  pub read : List SchemaOf
  pub tables : HaveTables folder.limits.file folder.files read loading.tables.items
  pub order : AreReadInTurn folder schemas read (coming_schemas loading) loading.table
  pub keys : AllByRecursion HasKeyColumns (coming_schemas loading)
  pub defaults : AllByRecursion HasShortDefaults (coming_schemas loading)
  pub differ : DifferInUrl schemas
  pub count : deque_len loading.schemas ≡ length loading.schemas.items

-- some folder is loaded so
abbrev pub IsLoading : Loading → Type 0
IsLoading loading = (folder : FolderOf) × Loads folder loading

-- the url of the table that is to begin
abbrev pub next_of : Option TableLoading → List SchemaOf → Option (List ℕ)
next_of (Some table) coming = None
next_of None [] = None
next_of None (schema ∷ coming) = Some schema.url

abbrev pub next_url : Loading → Option (List ℕ)
next_url loading = next_of loading.table (coming_schemas loading)

-- the url of the table that is under way, if its next step is to have more of its file
abbrev pub waiting_of : Option TableLoading → Option (List ℕ)
waiting_of None = None
waiting_of (Some table) = if stage_wants table.stage then Some (string_bytes table.schema.url) else None

abbrev pub waiting_url : Loading → Option (List ℕ)
waiting_url loading = waiting_of loading.table

-- the folders are the same, but for this file, which the second one has
pub record IsFolderWith (folder new : FolderOf) (url : List ℕ) (file : Option (List ℕ)) : Type 0 where
  pub limits : new.limits ≡ folder.limits
  pub meta : new.meta ≡ folder.meta
  pub has : file_named url new.files ≡ file
  pub others : (other : List ℕ) → bytes_eq other url ≡ false → file_named other new.files ≡ file_named other folder.files

-- and in its file the second one has these bytes after those that the first one has
abbrev pub IsFolderWithMore : FolderOf → FolderOf → List ℕ → List ℕ → Type 0
IsFolderWithMore folder new url bytes = IsFolderWith folder new url (with_more bytes (file_named url folder.files))

-- a folder is loaded, and its next table begins, of whose file that is known in the second one
pub record BeginsTable (folder new : FolderOf) (start : FileStart) (loading : Loading) : Type 0 where
  pub loads : Loads folder loading
  pub file : Option (List ℕ)
  pub such : IsSuchFile new.limits.file start file
  pub same : IfSome (next_url loading) (λ url. IsFolderWith folder new url file)

-- or the file of the table that is under way has these bytes more in the second one
pub record FeedsTable (folder new : FolderOf) (bytes : List ℕ) (loading : Loading) : Type 0 where
  pub loads : Loads folder loading
  pub same : IfSome (waiting_url loading) (λ url. IsFolderWithMore folder new url bytes)

-- no more steps than these are left: of a table those of its stage, which are fewer than 2 to the 34, one that ends it and one that begins it
abbrev pub table_steps_left : Option TableLoading → ℕ
table_steps_left None = 0
table_steps_left (Some table) = stage_left table.stage + 1

abbrev pub steps_left : Loading → ℕ
steps_left loading = length loading.schemas.items * (2 ^ 34 + 2) + table_steps_left loading.table

-- fewer steps are left, or the tables are those that the folder means
abbrev pub LoadsOn : FolderOf → ℕ → Loaded → Type 0
LoadsOn folder left (steps.On loading) = Loads folder loading × (steps_left loading < left)
LoadsOn folder left (steps.Over catalog) = Means folder catalog

-- the same tables are to come
abbrev pub KeepsComing : List SchemaOf → Loaded → Type 0
KeepsComing coming (steps.On loading) = coming_schemas loading ≡ coming
KeepsComing coming (steps.Over catalog) = Unit {0}

-- or the first of them has begun
abbrev pub BeginsFirst : Loading → Loading → Type 0
BeginsFirst old new = (schema : SchemaOf) × (coming_schemas old ≡ schema ∷ coming_schemas new)

-- the folder is loaded, and these are its files, of which those of the tables that are to come are as they were
pub record LoadsIn (folder : FolderOf) (files : List NamedFile) (loading : Loading) : Type 0 where
  pub loads : Loads folder loading
  pub have : HaveFiles folder.files (files_view files) (coming_schemas loading)

abbrev pub LoadsOnIn : FolderOf → List NamedFile → ℕ → Loaded → Type 0
LoadsOnIn folder files left (steps.On loading) = LoadsIn folder files loading × (steps_left loading < left)
LoadsOnIn folder files left (steps.Over catalog) = Means folder catalog
