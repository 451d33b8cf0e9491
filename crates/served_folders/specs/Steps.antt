-- How a step of the loading of a folder of a disk ends.
use Rattle.std.specs.Prelude.{◌≡◌, ◌<◌, ◌≤◌, ℕ, [], None}
use Rattle.csvw_meta.specs.declared.limits.TheConstants.{MOST_FILE_BYTES}
use Rattle.table_store.specs.Catalog.{FolderOf}
use Rattle.table_store.specs.FolderSteps.{steps_left, Loads}
use Rattle.table_store.specs.declared.file.FileStart.{FileStart}
use Rattle.table_store.specs.declared.file.FileStart.TheVariants.{Missing, TooLarge, Begins}
use Rattle.table_store.specs.declared.folder_loading.Loaded.{Loaded}
use Rattle.table_store.specs.declared.folder_loading.Loaded.TheVariants as tables
use Rattle.table_store.specs.declared.folder_loading.Loading.{Loading}
use Rattle.served_folders.specs.declared.disk_loading.DiskLoaded.{DiskLoaded}
use Rattle.served_folders.specs.declared.disk_loading.DiskLoaded.TheVariants as disk
use Rattle.served_folders.specs.declared.disk_loading.StateStep.{StateStep}
use Rattle.served_folders.specs.declared.disk_loading.StateStep.TheVariants.{On, Over}
use Rattle.served_folders.specs.Folders.{greatest_limits, MeansTaken}

-- some folder under the greatest limits is loaded
pub record IsLoadingTaken (loading : Loading) : Type 0 where
  pub folder : FolderOf
  pub limits : folder.limits ≡ greatest_limits
  pub loads : Loads folder loading

-- that is a file of `length` bytes, none of which is read
abbrev pub IsUnread : ℕ → FileStart → Type 0
IsUnread length Missing = ⊥
IsUnread length TooLarge = MOST_FILE_BYTES < length
IsUnread length (Begins bytes) = (length ≤ MOST_FILE_BYTES) × (bytes.items ≡ [])

-- fewer steps are left, or some folder means these tables
abbrev pub TablesGoOn : ℕ → Loaded → Type 0
TablesGoOn left (tables.On loading) = IsLoadingTaken loading × (steps_left loading < left)
TablesGoOn left (tables.Over catalog) = MeansTaken None catalog

abbrev pub StateGoesOn : {F : Type 0} → ℕ → StateStep F → Type 0
StateGoesOn left (On state) = IsLoadingTaken state.loading × (steps_left state.loading < left)
StateGoesOn left (Over catalog) = MeansTaken None catalog

abbrev pub DiskGoesOn : {F : Type 0} → ℕ → DiskLoaded F → Type 0
DiskGoesOn left (disk.On loading) = loading < left
DiskGoesOn left (disk.Over catalog) = MeansTaken None catalog
