-- What a listener tells and counts, and how one connection was answered.
use Rattle.std.specs.Prelude.{◌≡◌, ◌≢◌, ℕ, List, Option, None, Result, Ok, Err, ⊤}
use Rattle.odata_http.specs.declared.runs.RunFault.{RunFault}
use Rattle.odata_http.specs.declared.runs.RunFault.TheVariants as run
use Rattle.odata_http.specs.Device.{Counts}
use Rattle.http_heads.specs.Head.{HeadOf}
use Rattle.odata_http.specs.Runs.{Course, IsRun}
use Rattle.exit_statuses.specs.declared.fault.TheConstants.{MAX_READS}
use Rattle.exit_statuses.specs.declared.fault.ProgramFault.{ProgramFault}
use Rattle.exit_statuses.specs.declared.fault.ProgramFault.TheVariants.{Device, NoMemory}

-- a listener: the port that it told last, if it did; how many connections were answered to their ends, and how many calls failed
pub record ListenerOf : Type 0 where
  pub port : Option ℕ
  pub answered : ℕ
  pub failed : ℕ

-- a listener that told and counted nothing yet
abbrev pub new_listener : ListenerOf
new_listener = record { port = None; answered = 0; failed = 0 }

-- a connection that was answered is counted, and so is a call that failed
abbrev pub CountsAnswer : ListenerOf → ListenerOf → Result ⊤ ProgramFault → Type 0
CountsAnswer old new (Ok u) = Counts old.answered new.answered × (new.failed ≡ old.failed)
CountsAnswer old new (Err Device) = (new.answered ≡ old.answered) × Counts old.failed new.failed
CountsAnswer old new (Err NoMemory) = (new.answered ≡ old.answered) × (new.failed ≡ old.failed)
CountsAnswer old new r = ⊥

-- how answering the stream of a connection ended: by a run, whose fault is the connection's alone unless memory ran out
abbrev pub IsConnection : (HeadOf → List ℕ → Type 0) → Course → Result ⊤ ProgramFault → Type 0
IsConnection R c (Ok u) = (end : Result ⊤ RunFault) × (end ≢ Err run.NoMemory) × IsRun R MAX_READS c end
IsConnection R c (Err NoMemory) = IsRun R MAX_READS c (Err run.NoMemory)
IsConnection R c r = ⊥
