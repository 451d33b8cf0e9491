-- What holds of each fault's text, and the numbers of the programs over folders: how often a stream is read at most, and the exit statuses.
use Rattle.std.specs.Prelude.{◌≡◌, ◌++◌, ⊤, ℕ, Bool, true, List, Option}
use Rattle.std.specs.Fmt.{decimal}
use Rattle.std.specs.Int.{is_in_range}
use Rattle.std.specs.List.{list_all}
use Rattle.text_escapes.specs.Laws.{IsOneLine}
use Rattle.table_store.specs.Catalog.{FolderOf}
use Rattle.served_folders.specs.Folders.{IsRefusalOf}
use Rattle.exit_statuses.specs.declared.fault.TheConstants.{MAX_READS}
use Rattle.exit_statuses.specs.declared.fault.ProgramFault.{ProgramFault}
use Rattle.exit_statuses.specs.declared.fault.ProgramFault.TheVariants.{Folder}
use Rattle.exit_statuses.specs.declared.status.TheConstants.{DONE}
use Rattle.exit_statuses.specs.declared.text.TheConstants.{REFUSED, USAGE, DEVICE, MEMORY}
use Rattle.exit_statuses.specs.Text.{fault_text}

-- a fault that is met: that of a folder is what a load answers
abbrev pub IsMet : Option FolderOf → ProgramFault → Type 0
IsMet taken (Folder fault) = IsRefusalOf taken fault
IsMet taken fault = ⊤

-- a printable character of ASCII, from the space to the tilde
abbrev pub is_printable : ℕ → Bool
is_printable byte = is_in_range 0x20 0x7E byte

-- what is said of each fault that is met is one line, whatever the metadata has; so is a text of printable characters, a number, and what two lines
-- make one after the other
pub record FaultsAreOneLine : Type 0 where
  pub texts : (taken : Option FolderOf) (fault : ProgramFault) → IsMet taken fault → IsOneLine (fault_text fault)
  pub printable : (text : List ℕ) → list_all is_printable text ≡ true → IsOneLine text
  pub numbers : (n : ℕ) → IsOneLine (decimal n)
  pub joined : (front text : List ℕ) → IsOneLine front → IsOneLine text → IsOneLine (front ++ text)

pub record ReadSizes : Type 0 where
  pub reads : MAX_READS ≡ 1_048_576
  pub done : DONE ≡ 0
  pub refused : REFUSED ≡ 1
  pub usage : USAGE ≡ 2
  pub device : DEVICE ≡ 3
  pub memory : MEMORY ≡ 4
