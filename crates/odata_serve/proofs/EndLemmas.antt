-- The ends of commands that run no script.
use Rattle.std.proofs.Common.{ℕ, List, Result, Ok, Err, inl, inr}
use Rattle.std.specs.Prelude.{⊤}
use Rattle.odata_http.specs.declared.runs.RunFault.TheVariants as run
use Rattle.odata_http.specs.Device.{SinkOf}
use Rattle.odata_http.specs.Runs.{Course}
use Rattle.served_folders.specs.declared.folders.FolderFault.TheVariants as folder
use Rattle.exit_statuses.specs.declared.fault.ProgramFault.{ProgramFault}
use Rattle.exit_statuses.specs.declared.fault.ProgramFault.TheVariants.{Folder, Run, Script, Device, NoMemory}
use Rattle.odata_serve.specs.Check.{IsCheck}
use Rattle.odata_serve.specs.Command.{EndsNoScript}
use Rattle.served_folders.specs.Loads.{Loading}
use Rattle.odata_serve.specs.Program.{IsAnswer, IsQuery}
use Rattle.odata_serve.specs.Serving.{Serving, IsServed}

pub answer_ends : (l : Loading) (c : Course) (end : Result ⊤ ProgramFault) → IsAnswer l c end → EndsNoScript end
answer_ends l c (Ok u) h = tt
answer_ends l c (Err (Folder fault)) h = tt
answer_ends l c (Err (Run fault)) h = tt
answer_ends l c (Err (Script line)) h = h
answer_ends l c (Err Device) h = tt
answer_ends l c (Err NoMemory) h = tt

pub query_ends : (target : List ℕ) (l : Loading) (old new : SinkOf) (end : Result ⊤ ProgramFault) → IsQuery target l old new end → EndsNoScript end
query_ends target l old new (Ok u) h = tt
query_ends target l old new (Err (Folder fault)) h = tt
query_ends target l old new (Err (Run fault)) h = tt
query_ends target l old new (Err (Script line)) h = h.answer
query_ends target l old new (Err Device) h = tt
query_ends target l old new (Err NoMemory) h = tt

pub check_ends : (l : Loading) (old new : SinkOf) (end : Result ⊤ ProgramFault) → IsCheck l old new end → EndsNoScript end
check_ends l old new (Ok u) h = tt
check_ends l old new (Err (Folder fault)) h = tt
check_ends l old new (Err (Run fault)) h = tt
check_ends l old new (Err (Script line)) h = h.listed
check_ends l old new (Err Device) h = tt
check_ends l old new (Err NoMemory) h = tt

pub serve_ends : (n : ℕ) (s : Serving) (end : Result ⊤ ProgramFault) → IsServed n s end → EndsNoScript end
serve_ends n s (Ok u) h = tt
serve_ends n s (Err (Folder fault)) h = tt
serve_ends n s (Err (Run fault)) h = tt
serve_ends n s (Err (Script line)) (inl h) = h
serve_ends n s (Err (Script line)) (inr h) = h.1
serve_ends n s (Err Device) h = tt
serve_ends n s (Err NoMemory) h = tt
