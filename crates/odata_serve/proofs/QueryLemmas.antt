-- The end of a query by that of answering its request.
use Rattle.std.proofs.Common.{◌≡◌, ℕ, List, Some, Result, Ok, Err}
use Rattle.std.specs.Prelude.{⊤}
use Rattle.odata_http.specs.Device.{SinkOf, SourceOf}
use Rattle.odata_http.specs.Runs.{course}
use Rattle.exit_statuses.specs.declared.fault.ProgramFault.{ProgramFault}
use Rattle.exit_statuses.specs.declared.fault.ProgramFault.TheVariants.{Folder, Run, Script, Device, NoMemory}
use Rattle.served_folders.specs.Loads.{Loading}
use Rattle.odata_serve.specs.Program.{IsAnswer, IsQuery, request_to}

pub query_by_answer : (target : List ℕ) (l : Loading) (source source_after : SourceOf) (old new : SinkOf) (r : Result ⊤ ProgramFault)
    → source.left ≡ Some (request_to target) → IsAnswer l (course source source_after old new) r → IsQuery target l old new r
query_by_answer target l source source_after old new (Ok u) request h =
    record { source = source; source_after = source_after; request = request; answer = h }
query_by_answer target l source source_after old new (Err (Folder fault)) request h =
    record { source = source; source_after = source_after; request = request; answer = h }
query_by_answer target l source source_after old new (Err (Run fault)) request h =
    record { source = source; source_after = source_after; request = request; answer = h }
query_by_answer target l source source_after old new (Err (Script line)) request h = absurd h
query_by_answer target l source source_after old new (Err Device) request h = absurd h
query_by_answer target l source source_after old new (Err NoMemory) request h = absurd h
