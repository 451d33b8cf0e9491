-- The exit status of a fault.
use Rattle.std.specs.Prelude.{◌≡◌, ◌≢◌, ◌⊎◌, ℕ, [], ⊤}
use Rattle.exit_statuses.specs.declared.text.TheConstants.{MEMORY}
use Rattle.exit_statuses.specs.declared.fault.ProgramFault.{ProgramFault}
use Rattle.exit_statuses.specs.declared.fault.ProgramFault.TheVariants.{Script}
use Rattle.exit_statuses.specs.Text.{exit_status, fault_text}

-- the status of a fault; or, if something is said of it and there is no memory for that, the status of memory that ran out
abbrev pub IsFaultStatus : ProgramFault → ℕ → Type 0
IsFaultStatus fault status = (status ≡ exit_status fault) ⊎ ((fault_text fault ≢ []) × (status ≡ MEMORY))

-- the fault is none of a script
abbrev pub IsNoScript : ProgramFault → Type 0
IsNoScript (Script line) = ⊥
IsNoScript fault = ⊤
