-- When a folder is loaded anew, and what is done with what was loaded.
use Rattle.std.specs.Prelude.{◌≡◌, ◌≢◌, ◌*◌, ⊤, ℕ, zero, suc, length, min, Bool, true, false, not, List, is_none, Result, Ok, Err}
use Rattle.table_store.specs.Catalog.{CatalogOf}
use Rattle.odata_hub.specs.declared.hub.Hub.{Hub}
use Rattle.odata_hub.specs.Connections.{Done}
use Rattle.odata_hub.specs.Schedules.{Reload}
use Rattle.odata_hub.specs.Stands.{IsHubStep}
use Rattle.served_folders.specs.declared.folders.FolderFault.{FolderFault}
use Rattle.exit_statuses.specs.declared.fault.ProgramFault.{ProgramFault}
use Rattle.exit_statuses.specs.declared.fault.ProgramFault.TheVariants.{Folder, NoMemory}
use Rattle.served_folders.specs.Folders.{folder_cause}
use Rattle.service_log.specs.declared.log.LoadSummary.{LoadSummary}
use Rattle.odata_listen.specs.declared.watch.TheConstants.{MOST_PAUSE}
use Rattle.odata_listen.specs.declared.watch.FolderLook.{FolderLook}
use Rattle.odata_listen.specs.declared.watch.FolderLook.TheVariants.{Same, Moves, Changed}

-- what a look says of the state that it found, by the one that was taken and the one that the look before found
abbrev pub Looks : List ℕ → List ℕ → List ℕ → FolderLook → Type 0
Looks taken seen found Same = found ≡ taken
Looks taken seen found Changed = (found ≢ taken) × (found ≡ seen)
Looks taken seen found Moves = (found ≢ taken) × (found ≢ seen)

-- the pause after a pause: none, a second, and then twice as long each time, up to a minute
abbrev pub next_pause : ℕ → ℕ
next_pause zero = 1
next_pause (suc n) = min (2 * suc n) MOST_PAUSE

-- how many tables were loaded, and in how long; none where the folder was refused
abbrev pub IsSize : Result CatalogOf FolderFault → ℕ → LoadSummary → Type 0
IsSize (Ok catalog) millis loaded = (loaded.tables ≡ length catalog.tables) × (loaded.millis ≡ millis)
IsSize (Err fault) millis loaded = (loaded.tables ≡ 0) × (loaded.rows ≡ 0) × (loaded.millis ≡ millis)

-- The hub has the tables that were loaded from now on. Where none were, or memory ran out, it is as it was.
abbrev pub HandsOver : Result CatalogOf FolderFault → Hub → Hub → Result ⊤ ProgramFault → Type 0
HandsOver (Ok catalog) old new (Ok u) = IsHubStep old (Reload catalog) Done new
HandsOver (Ok catalog) old new (Err fault) = (fault ≡ NoMemory) × (new ≡ old)
HandsOver (Err fault) old new (Ok u) = ⊥
HandsOver (Err fault) old new (Err other) = (other ≡ Folder fault) × (new ≡ old)

-- Whether a reload comes to the same end as long as the folder stays: its tables were replaced, or it is refused. A device that failed, and memory that
-- ran out, may be there again.
abbrev pub is_final : Result ⊤ ProgramFault → Bool
is_final (Ok u) = true
is_final (Err (Folder fault)) = not (is_none (folder_cause fault))
is_final (Err fault) = false
