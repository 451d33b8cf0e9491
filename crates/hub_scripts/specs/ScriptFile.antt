-- How the file of a script was read, and what that counted.
use Rattle.std.specs.Prelude.{◌≡◌, ◌≤◌, ◌+◌, ℕ, IfSome, Result, Ok, Err, Vec}
use Rattle.odata_http.specs.declared.runs.RunFault.{RunFault}
use Rattle.odata_http.specs.declared.runs.RunFault.TheVariants.{NoMemory, Read, Write, TooManyReads}
use Rattle.odata_http.specs.Device.{Counts, SourceOf}
use Rattle.exit_statuses.specs.declared.fault.TheConstants.{MAX_READS}

-- no more reads were made than a script may have
abbrev pub ReadsFew : SourceOf → SourceOf → Type 0
ReadsFew old new = new.reads ≤ old.reads + MAX_READS

-- All bytes that it had left, where it tells them: the end was reported once, and no read failed. Or one read failed, and none reported the end; or
-- none of the most reads did either; or memory ran out before.
abbrev pub IsScriptRead : {A : Type 0} → SourceOf → SourceOf → Result (Vec ℕ A) RunFault → Type 0
IsScriptRead old new (Ok script) =
    IfSome old.left (λ all. script.items ≡ all) × ReadsFew old new × (new.failed_reads ≡ old.failed_reads) × Counts old.ends new.ends
IsScriptRead old new (Err Read) = ReadsFew old new × Counts old.failed_reads new.failed_reads × (new.ends ≡ old.ends)
IsScriptRead old new (Err TooManyReads) = (new.reads ≡ old.reads + MAX_READS) × (new.failed_reads ≡ old.failed_reads) × (new.ends ≡ old.ends)
IsScriptRead old new (Err NoMemory) = ReadsFew old new × (new.failed_reads ≡ old.failed_reads) × (new.ends ≡ old.ends)
IsScriptRead old new (Err Write) = ⊥
