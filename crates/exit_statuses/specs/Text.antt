-- What the program says of a fault on standard error, and its exit status.
use Rattle.std.specs.Prelude.{ℕ, List, [], ◌++◌, codes, if◌then◌else◌, is_none}
use Rattle.std.specs.Fmt.{decimal}
use Rattle.table_store.specs.declared.fault.LoadFault.{LoadFault}
use Rattle.table_store.specs.Fault.{load_cause, load_fault_text}
use Rattle.odata_http.specs.declared.runs.RunFault.TheVariants as run
use Rattle.served_folders.specs.declared.folders.FolderFault.TheVariants as folder
use Rattle.exit_statuses.specs.declared.fault.ProgramFault.{ProgramFault}
use Rattle.exit_statuses.specs.declared.fault.ProgramFault.TheVariants.{Folder, Run, Script, Device, NoMemory}
use Rattle.exit_statuses.specs.declared.text.TheConstants.{REFUSED, USAGE, DEVICE, MEMORY}

-- a refused folder: the file that is refused, and why; nothing where memory ran out
abbrev pub refusal_text : LoadFault → List ℕ
refusal_text fault = if is_none (load_cause fault) then [] else codes "refused: " ++ load_fault_text fault

abbrev pub refusal_status : LoadFault → ℕ
refusal_status fault = if is_none (load_cause fault) then MEMORY else REFUSED

-- the text; a device and memory that ran out have none
abbrev pub fault_text : ProgramFault → List ℕ
fault_text (Folder folder.NoMetadata) = codes "refused: csv-metadata.json: NoMetadata"
fault_text (Folder (folder.Load fault)) = refusal_text fault
fault_text (Script line) = codes "line " ++ decimal line ++ codes ": bad command"
fault_text fault = []

abbrev pub exit_status : ProgramFault → ℕ
exit_status (Folder folder.NoMetadata) = REFUSED
exit_status (Folder (folder.Load fault)) = refusal_status fault
exit_status (Folder folder.Device) = DEVICE
exit_status (Folder folder.NoMemory) = MEMORY
exit_status (Run run.NoMemory) = MEMORY
exit_status (Run fault) = DEVICE
exit_status (Script line) = USAGE
exit_status Device = DEVICE
exit_status NoMemory = MEMORY
