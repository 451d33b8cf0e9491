-- A folder that is checked table by table: the files that were given are those of its tables, in the order of the metadata.
use Rattle.std.specs.Prelude.{◌≡◌, ℕ, ◌-◌, ◌≤◌, List, [], ◌∷◌, ◌++◌, length, map, take, Ok, Option, None, Some, IfSome, slice_get, option_map}
use Rattle.csvw_meta.specs.Document.{schemas_of}
use Rattle.csvw_meta.specs.Schema.{schema_view, SchemaOf}
use Rattle.csvw_meta.specs.declared.limits.TheConstants.{MOST_FILE_BYTES}
use Rattle.served_folders.specs.Folders.{greatest_limits}
use Rattle.table_store.specs.Catalog.{CatalogOf, HasTableCause, IsRefused, Means}
use Rattle.table_store.specs.Fault.{LoadCause}
use Rattle.table_store.specs.File.{FileOf}
use Rattle.folder_checks.specs.Checks.{check_cause, folder_of, IsChecking, IsSomeTable}
use Rattle.folder_checks.specs.declared.fault.CheckFault.{CheckFault}
use Rattle.folder_checks.specs.declared.file_check.FileCheck.{FileCheck}
use Rattle.folder_checks.specs.declared.folder_check.FolderCheck.{FolderCheck}

-- each schema has the file of its url, which is not above the limit and is a table of it
abbrev pub AreCheckedBy : List SchemaOf → List FileOf → Type 0
AreCheckedBy [] [] = Unit {0}
AreCheckedBy [] (file ∷ files) = ⊥
AreCheckedBy (schema ∷ schemas) [] = ⊥
AreCheckedBy (schema ∷ schemas) (file ∷ files) =
    (file.name ≡ schema.url) × (length file.bytes ≤ MOST_FILE_BYTES) × IsSomeTable schema file.bytes × AreCheckedBy schemas files

-- the metadata has these schemas, and the first tables are those of the files
pub record IsCheckingFolder (meta : List ℕ) (files : List FileOf) (check : FolderCheck) : Type 0 where
  pub read : schemas_of greatest_limits meta ≡ Ok (map schema_view check.schemas.items)
  pub within : check.next ≤ length check.schemas.items
  pub checked : AreCheckedBy (map schema_view (take check.next check.schemas.items)) files

-- the schema of the table that is to be checked
abbrev pub next_schema : FolderCheck → Option SchemaOf
next_schema check = option_map schema_view (slice_get check.schemas.items check.next)

-- how many tables are left
abbrev pub tables_left : FolderCheck → ℕ
tables_left check = length check.schemas.items - check.next

-- the files with that of a schema, if there is one
abbrev pub with_file : Option SchemaOf → List FileOf → Option (List ℕ) → List FileOf
with_file None files file = files
with_file (Some schema) files None = files
with_file (Some schema) files (Some bytes) = files ++ (record { name = schema.url; bytes = bytes }) ∷ []

abbrev pub with_last : FolderCheck → List FileOf → Option (List ℕ) → List FileOf
with_last check files file = with_file (next_schema check) files file

-- the files were checked, and these are the bytes of the next
pub record EndsTable (check : FolderCheck) (file : FileCheck) (meta : List ℕ) (files : List FileOf) (given : List ℕ) : Type 0 where
  pub folder : IsCheckingFolder meta files check
  pub checks : IfSome (next_schema check) (λ schema. IsChecking schema given file)

-- the folder of the files that were checked, and of the next, is refused under this cause, if the table of that is
abbrev pub RefusesTable : FolderCheck → CheckFault → Option LoadCause → Type 0
RefusesTable check fault load = (meta : List ℕ) (files : List FileOf) (file : Option (List ℕ)) → IsCheckingFolder meta files check
    → IfSome (next_schema check) (λ schema. IfSome (check_cause fault) (HasTableCause MOST_FILE_BYTES file schema))
    → IfSome load (IsRefused (folder_of meta (with_last check files file)))

-- so it is if the next table, whose file was given whole, is refused
abbrev pub RefusesEnd : FolderCheck → FileCheck → Option LoadCause → Type 0
RefusesEnd check file load = (meta : List ℕ) (files : List FileOf) (given : List ℕ) → EndsTable check file meta files given
    → IfSome load (IsRefused (folder_of meta (with_last check files (Some given))))

-- the folder of these files with that metadata is served
abbrev pub IsServedBy : List ℕ → List FileOf → Type 0
IsServedBy meta files = (catalog : CatalogOf) × Means (folder_of meta files) catalog
