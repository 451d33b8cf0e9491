-- The exit status of an end.
use Rattle.std.specs.Prelude.{◌≡◌, ℕ, Result, Ok, Err, ⊤}
use Rattle.exit_statuses.specs.declared.status.TheConstants.{DONE}
use Rattle.exit_statuses.specs.declared.fault.ProgramFault.{ProgramFault}
use Rattle.exit_statuses.specs.Status.{IsFaultStatus, IsNoScript}

-- the status of an end
abbrev pub IsStatus : Result ⊤ ProgramFault → ℕ → Type 0
IsStatus (Ok u) status = status ≡ DONE
IsStatus (Err fault) status = IsFaultStatus fault status

-- no script ended so
abbrev pub EndsNoScript : Result ⊤ ProgramFault → Type 0
EndsNoScript (Ok u) = ⊤
EndsNoScript (Err fault) = IsNoScript fault
