-- A folder of files with metadata: the annotated tables that it means, or the one cause why it is refused (Model for Tabular Data and
-- Metadata on the Web, section 4; Metadata Vocabulary for Tabular Data, section 5.4).
use Rattle.std.specs.Prelude.{◌≡◌, ℕ, ◌<◌, ◌≤◌, ◌⊎◌, List, [], ◌∷◌, length, map, Option, None, Some, option_map, Result, Ok, Err}
use Rattle.std.specs.List.{AllZip}
use Rattle.csv_grammar.specs.Files.{IsFileFault}
use Rattle.csvw_meta.specs.declared.limits.Limits.{Limits}
use Rattle.csvw_meta.specs.Limits.{LimitsOf, limits_view}
use Rattle.csvw_meta.specs.Fault.{MetaCause}
use Rattle.csvw_meta.specs.Schema.{SchemaOf}
use Rattle.csvw_meta.specs.Document.{schemas_of}
use Rattle.table_store.specs.declared.file.NamedFile.{NamedFile}
use Rattle.table_store.specs.File.{FileOf, file_view, file_named}
use Rattle.table_store.specs.Table.{TableOf, IsAnnotated, HasOtherHeader, HasBadCell, HasNullKey, HasKeyTwice}
use Rattle.table_store.specs.Fault.{TableCause, file_missing, file_too_large, bad_text, bad_header, bad_cell, key_null, key_twice, LoadCause, no_metadata, bad_meta, bad_table}

-- the limits, the metadata where there is one, and the files
pub record FolderOf : Type 0 where
  pub limits : LimitsOf
  pub meta : Option (List ℕ)
  pub files : List FileOf

abbrev pub folder_view : Limits → List ℕ → List NamedFile → FolderOf
folder_view limits meta files = record { limits = limits_view limits; meta = Some meta; files = map file_view files }

-- the tables of a folder that is served
pub record CatalogOf : Type 0 where
  pub limits : LimitsOf
  pub tables : List TableOf

-- there is a file, not above the limit of bytes
abbrev pub HasFile : ℕ → Option (List ℕ) → List ℕ → Type 0
HasFile limit file bytes = (file ≡ Some bytes) × (length bytes ≤ limit)

-- that is the table of the schema
pub record HasTable (limit : ℕ) (file : Option (List ℕ)) (schema : SchemaOf) (table : TableOf) : Type 0 where
  pub bytes : List ℕ
  pub has_file : HasFile limit file bytes
  pub is : IsAnnotated schema bytes table

-- this is the first thing wrong with the table of the schema
abbrev pub HasTableCause : ℕ → Option (List ℕ) → SchemaOf → TableCause → Type 0
HasTableCause limit file schema file_missing = file ≡ None
HasTableCause limit file schema file_too_large = (bytes : List ℕ) × (file ≡ Some bytes) × (limit < length bytes)
HasTableCause limit file schema (bad_text fault) = (bytes : List ℕ) × HasFile limit file bytes × IsFileFault bytes fault
HasTableCause limit file schema (bad_header place) = (bytes : List ℕ) × HasFile limit file bytes × HasOtherHeader schema bytes place
HasTableCause limit file schema (bad_cell row col fault) = (bytes : List ℕ) × HasFile limit file bytes × HasBadCell schema bytes row col fault
HasTableCause limit file schema (key_null row) = (bytes : List ℕ) × HasFile limit file bytes × HasNullKey schema bytes row
HasTableCause limit file schema (key_twice row) = (bytes : List ℕ) × HasFile limit file bytes × HasKeyTwice schema bytes row

-- each schema has its table, in order
abbrev pub HaveTables : ℕ → List FileOf → List SchemaOf → List TableOf → Type 0
HaveTables limit files schemas tables = AllZip (λ schema table. HasTable limit (file_named schema.url files) schema table) schemas tables

-- the tables before one are whole, and it is the first that is refused
abbrev pub IsFirstBadTable : ℕ → List FileOf → List SchemaOf → List ℕ → TableCause → Type 0
IsFirstBadTable limit files [] url cause = ⊥
IsFirstBadTable limit files (schema ∷ schemas) url cause =
    ((schema.url ≡ url) × HasTableCause limit (file_named schema.url files) schema cause)
    ⊎ ((table : TableOf) × HasTable limit (file_named schema.url files) schema table × IsFirstBadTable limit files schemas url cause)

-- what the metadata says, where there is one
abbrev pub schemas_in : FolderOf → Option (Result (List SchemaOf) MetaCause)
schemas_in folder = option_map (schemas_of folder.limits) folder.meta

-- the folder means these tables
pub record Means (folder : FolderOf) (catalog : CatalogOf) : Type 0 where
  pub schemas : List SchemaOf
  pub read : schemas_in folder ≡ Some (Ok schemas)
  pub tables : HaveTables folder.limits.file folder.files schemas catalog.tables
  pub limits : catalog.limits ≡ folder.limits

-- the folder is refused under this cause
abbrev pub IsRefused : FolderOf → LoadCause → Type 0
IsRefused folder no_metadata = folder.meta ≡ None
IsRefused folder (bad_meta cause) = schemas_in folder ≡ Some (Err cause)
IsRefused folder (bad_table url cause) =
    (schemas : List SchemaOf) × (schemas_in folder ≡ Some (Ok schemas)) × IsFirstBadTable folder.limits.file folder.files schemas url cause
