-- How checking a folder ended.
use Rattle.std.specs.Prelude.{ℕ, List, ◌++◌, ◌∷◌, [], codes, length, take, Result, Ok, Err, ⊤, ◌≡◌}
use Rattle.std.specs.List.{flat_map}
use Rattle.std.specs.Fmt.{decimal}
use Rattle.table_store.specs.Table.{TableOf}
use Rattle.table_store.specs.Catalog.{CatalogOf}
use Rattle.odata_http.specs.Device.{SinkOf}
use Rattle.odata_http.specs.Answer.{HasWritten, HasFailed}
use Rattle.exit_statuses.specs.declared.fault.ProgramFault.{ProgramFault}
use Rattle.exit_statuses.specs.declared.fault.ProgramFault.TheVariants.{Folder, Device, NoMemory}
use Rattle.served_folders.specs.Loads.{Loading, IsFolderFault, IsLoaded}

-- the line of a table: its name, its number of rows and its number of columns
abbrev pub table_line : TableOf → List ℕ
table_line table =
    table.schema.name ++ codes " " ++ decimal (length table.rows) ++ codes " " ++ decimal (length table.schema.columns) ++ 10 ∷ []

-- the lines of tables, in order
abbrev pub table_lines : List TableOf → List ℕ
table_lines tables = flat_map table_line tables

-- how the lines of tables were written: all; a front of them, where a write failed; those of the first tables, where memory ran out
abbrev pub AreListed : List TableOf → SinkOf → SinkOf → Result ⊤ ProgramFault → Type 0
AreListed tables old new (Ok u) = HasWritten old new (table_lines tables)
AreListed tables old new (Err Device) = (n : ℕ) × HasFailed old new (take n (table_lines tables))
AreListed tables old new (Err NoMemory) = (n : ℕ) × HasWritten old new (table_lines (take n tables))
AreListed tables old new r = ⊥

-- the lines of the tables that the folder means were written so
pub record Lists (l : Loading) (old new : SinkOf) (r : Result ⊤ ProgramFault) : Type 0 where
  pub catalog : CatalogOf
  pub loaded : IsLoaded l catalog
  pub listed : AreListed catalog.tables old new r

-- how checking a folder ended: with its lines, or with a folder that gave no catalog before anything was written
abbrev pub IsCheck : Loading → SinkOf → SinkOf → Result ⊤ ProgramFault → Type 0
IsCheck l old new (Err (Folder fault)) = IsFolderFault l fault × (new ≡ old)
IsCheck l old new r = Lists l old new r
