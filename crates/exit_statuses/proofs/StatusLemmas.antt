-- The status of usage.
use Rattle.std.proofs.Common.{◌≢◌, ℕ, Bool, true, false, if◌then◌else◌, arith}
use Rattle.std.specs.Prelude.{is_none}
use Rattle.table_store.specs.Fault.{load_cause}
use Rattle.odata_http.specs.declared.runs.RunFault.TheVariants as run
use Rattle.served_folders.specs.declared.folders.FolderFault.TheVariants as folder
use Rattle.exit_statuses.specs.declared.fault.ProgramFault.{ProgramFault}
use Rattle.exit_statuses.specs.declared.fault.ProgramFault.TheVariants.{Folder, Run, Script, Device, NoMemory}
use Rattle.exit_statuses.specs.Status.{IsNoScript}
use Rattle.exit_statuses.specs.Text.{exit_status}

refused_or_memory : (b : Bool) → ◌≢◌ {A = ℕ} (if b then 4 else 1) 2
refused_or_memory true e = absurd (omega (arith, e))
refused_or_memory false e = absurd (omega (arith, e))

-- the status of usage is a script's alone
pub other_status : (fault : ProgramFault) → IsNoScript fault → exit_status fault ≢ 2
other_status (Folder folder.NoMetadata) h e = absurd (omega (arith, e))
other_status (Folder (folder.Load fault)) h e = refused_or_memory (is_none (load_cause fault)) e
other_status (Folder folder.Device) h e = absurd (omega (arith, e))
other_status (Folder folder.NoMemory) h e = absurd (omega (arith, e))
other_status (Run run.NoMemory) h e = absurd (omega (arith, e))
other_status (Run run.Read) h e = absurd (omega (arith, e))
other_status (Run run.Write) h e = absurd (omega (arith, e))
other_status (Run run.TooManyReads) h e = absurd (omega (arith, e))
other_status (Script line) h e = h
other_status Device h e = absurd (omega (arith, e))
other_status NoMemory h e = absurd (omega (arith, e))
