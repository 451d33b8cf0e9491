-- What loading a folder by its name takes, tells and counts.
use Rattle.std.specs.Prelude.{◌≡◌, ◌<◌, ◌+◌, ◌-◌, ◌^◌, ℕ, List, [], ◌∷◌, Option, None, Some, IfSome, Result, Ok, Err, if◌then◌else◌}
use Rattle.std.specs.Str.{bytes_eq}
use Rattle.csvw_meta.specs.declared.limits.TheConstants.{MOST_FILE_BYTES, MOST_TABLES, MOST_COLUMNS, MOST_TRANSFORMATIONS}
use Rattle.csvw_meta.specs.Limits.{LimitsOf}
use Rattle.table_store.specs.Catalog.{FolderOf, CatalogOf, Means, IsRefused}
use Rattle.table_store.specs.Fault.{LoadCause, no_metadata, load_cause}
use Rattle.served_folders.specs.declared.folders.TheConstants.{NOTES, NOTES_METADATA, NOTES_FILE, NOTES_BYTES}
use Rattle.served_folders.specs.declared.folders.FolderFault.{FolderFault}
use Rattle.served_folders.specs.declared.folders.FolderFault.TheVariants.{NoMetadata, Load, Device, NoMemory}

-- one more was counted, where the count is not full
abbrev pub CountsUp : ℕ → ℕ → Type 0
CountsUp old new = old < 2 ^ 64 - 1 → new ≡ old + 1

-- what the last load under a name took, if that is reported; how many loads there were, how many of them answered `NoMetadata`, and how many
-- `Device`
pub record FoldersOf : Type 0 where
  pub took : List ℕ → Option FolderOf
  pub loads : ℕ
  pub no_metadata : ℕ
  pub device : ℕ

-- folders that were asked for nothing yet, which tell this of a name
abbrev pub unasked : (List ℕ → Option FolderOf) → FoldersOf
unasked took = record { took = took; loads = 0; no_metadata = 0; device = 0 }

-- the greatest limits
abbrev pub greatest_limits : LimitsOf
greatest_limits = record { file = MOST_FILE_BYTES; tables = MOST_TABLES; columns = MOST_COLUMNS; transformations = MOST_TRANSFORMATIONS }

-- a folder under the greatest limits means this catalog: the folder that was taken, if it is reported
pub record MeansTaken (taken : Option FolderOf) (catalog : CatalogOf) : Type 0 where
  pub folder : FolderOf
  pub limits : folder.limits ≡ greatest_limits
  pub same : IfSome taken (λ other. other ≡ folder)
  pub means : Means folder catalog

-- a folder under the greatest limits is refused under this cause: the folder that was taken, if it is reported
pub record RefusesTaken (taken : Option FolderOf) (cause : LoadCause) : Type 0 where
  pub folder : FolderOf
  pub limits : folder.limits ≡ greatest_limits
  pub same : IfSome taken (λ other. other ≡ folder)
  pub refused : IsRefused folder cause

-- the cause that a fault is; none where a device failed or memory ran out
abbrev pub folder_cause : FolderFault → Option LoadCause
folder_cause NoMetadata = Some no_metadata
folder_cause (Load fault) = load_cause fault
folder_cause Device = None
folder_cause NoMemory = None

-- the cause that a fault is, if it is one, is why the folder that was taken is refused
abbrev pub IsRefusalOf : Option FolderOf → FolderFault → Type 0
IsRefusalOf taken fault = IfSome (folder_cause fault) (RefusesTaken taken)

-- both counts of answers stay
abbrev pub KeepsCounts : FoldersOf → FoldersOf → Type 0
KeepsCounts old new = (new.no_metadata ≡ old.no_metadata) × (new.device ≡ old.device)

-- each answer of these two is counted, and no other
abbrev pub CountsFolderFault : {X : Type 0} → FoldersOf → FoldersOf → Result X FolderFault → Type 0
CountsFolderFault old new (Ok x) = KeepsCounts old new
CountsFolderFault old new (Err NoMetadata) = CountsUp old.no_metadata new.no_metadata × (new.device ≡ old.device)
CountsFolderFault old new (Err (Load fault)) = KeepsCounts old new
CountsFolderFault old new (Err Device) = (new.no_metadata ≡ old.no_metadata) × CountsUp old.device new.device
CountsFolderFault old new (Err NoMemory) = KeepsCounts old new

-- the folder `notes`
abbrev pub notes_folder : FolderOf
notes_folder = record {
  limits = greatest_limits;
  meta = Some NOTES_METADATA.now;
  files = record { name = NOTES_FILE.now; bytes = NOTES_BYTES.now } ∷ [];
}

-- a folder with nothing in it
abbrev pub empty_folder : FolderOf
empty_folder = record { limits = greatest_limits; meta = None; files = [] }

-- the built-in folder of that name: there is one
abbrev pub built_in : List ℕ → FolderOf
built_in name = if bytes_eq name NOTES.now then notes_folder else empty_folder
