-- The exit status of a command line, by what its words ask for and what the folder came to.
use Rattle.std.specs.Prelude.{◌≡◌, ◌≢◌, ◌⊎◌, ◌<◌, ◌≤◌, ⊤, ℕ, List, Option, Some, None, Result, Ok, Err}
use Rattle.clap.specs.Words.{Text}
use Rattle.table_store.specs.Catalog.{CatalogOf}
use Rattle.served_folders.specs.declared.folders.FolderFault.{FolderFault}
use Rattle.cli_args.specs.declared.fault.ArgsFault.{ArgsFault}
use Rattle.cli_args.specs.declared.fault.ArgsFault.TheVariants.{Shows, Usage, NoMemory}
use Rattle.exit_statuses.specs.declared.fault.ProgramFault.TheVariants.{Folder}
use Rattle.exit_statuses.specs.declared.text.TheConstants.{DEVICE, MEMORY, USAGE}
use Rattle.exit_statuses.specs.Status.{IsFaultStatus}
use Rattle.listen_args.specs.declared.listens.Listens.{Listens}
use Rattle.listen_args.specs.declared.words.TheConstants.{MOST_PLACES}
use Rattle.listen_args.specs.declared.words.ListenOptions.{ListenOptions}
use Rattle.listen_args.specs.Listens.{AsksToListen}
use Rattle.listen_args.specs.ListenOptions.{AreListenWords, IsFaultOfWords}

-- The status of a start: of a folder that is refused that of its fault, and of one that changed under each load that of a device. One that was loaded is
-- served, whatever comes of that.
abbrev pub IsStartStatus : Option (Result CatalogOf FolderFault) → ℕ → Type 0
IsStartStatus (Some (Ok catalog)) status = ⊤
IsStartStatus (Some (Err fault)) status = IsFaultStatus (Folder fault) status
IsStartStatus None status = status ≡ DEVICE

-- the options ask to listen at one place, over a number of connections that there may be
pub record IsServable (words : ListenOptions) : Type 0 where
  pub at : Listens
  pub asked : AsksToListen words at
  pub some : 0 < words.places
  pub most : words.places ≤ MOST_PLACES

-- the status of words is that of usage exactly where they are not served
abbrev pub IsServedStatus : ListenOptions → ℕ → Type 0
IsServedStatus words status = (IsServable words × (status ≢ USAGE)) ⊎ ((IsServable words → ⊥) × (status ≡ USAGE))

-- the status where there is nothing to serve
abbrev pub IsUnreadStatus : ArgsFault → ℕ → Type 0
IsUnreadStatus (Shows error) status = status ≢ USAGE
IsUnreadStatus Usage status = status ≡ USAGE
IsUnreadStatus NoMemory status = status ≡ MEMORY

-- the status of a line: of the words that it has, or of why it has none
abbrev pub IsLineStatus : List Text → ℕ → Type 0
IsLineStatus line status = ((words : ListenOptions) × AreListenWords line words × IsServedStatus words status)
    ⊎ ((fault : ArgsFault) × IsFaultOfWords line fault × IsUnreadStatus fault status)
