-- How one load of a folder by its name ended.
use Rattle.std.specs.Prelude.{ℕ, List, IfSome, Err, ⊤}
use Rattle.table_store.specs.Catalog.{CatalogOf}
use Rattle.served_folders.specs.declared.folders.FolderFault.{FolderFault}
use Rattle.served_folders.specs.Folders.{CountsUp, CountsFolderFault, FoldersOf, KeepsCounts, MeansTaken, RefusesTaken, folder_cause}

-- a load under a name: what the folders tell and count before and after it
pub record Loading : Type 0 where
  pub name : List ℕ
  pub folders : FoldersOf
  pub folders_after : FoldersOf

abbrev pub loading : List ℕ → FoldersOf → FoldersOf → Loading
loading name folders folders_after = record { name = name; folders = folders; folders_after = folders_after }

-- the folder was loaded once and gave no catalog, under this fault's cause, and the answer was counted
pub record IsFolderFault (l : Loading) (fault : FolderFault) : Type 0 where
  pub load : CountsUp l.folders.loads l.folders_after.loads
  pub cause : IfSome (folder_cause fault) (RefusesTaken (l.folders_after.took l.name))
  pub counts : CountsFolderFault {X = ⊤} l.folders l.folders_after (Err fault)

-- the folder was loaded once and means a catalog, and no other answer was counted
pub record IsLoaded (l : Loading) (catalog : CatalogOf) : Type 0 where
  pub load : CountsUp l.folders.loads l.folders_after.loads
  pub means : MeansTaken (l.folders_after.took l.name) catalog
  pub counts : KeepsCounts l.folders l.folders_after
