-- How answering a stream over a folder ended, and the stream of one query.
use Rattle.std.specs.Prelude.{◌≡◌, ℕ, List, ◌++◌, codes, Some, Result, Ok, Err, ⊤}
use Rattle.table_store.specs.Catalog.{CatalogOf}
use Rattle.odata_http.specs.declared.runs.RunFault.{RunFault}
use Rattle.odata_http.specs.Device.{SinkOf, SourceOf}
use Rattle.odata_http.specs.Reply.{field_line, line_end, IsReply}
use Rattle.odata_http.specs.Runs.{Course, IsRun, course}
use Rattle.exit_statuses.specs.declared.fault.TheConstants.{MAX_READS}
use Rattle.exit_statuses.specs.declared.fault.ProgramFault.{ProgramFault}
use Rattle.exit_statuses.specs.declared.fault.ProgramFault.TheVariants.{Folder, NoMemory, Run}
use Rattle.served_folders.specs.Loads.{Loading, IsFolderFault, IsLoaded}

-- a run over the tables that the folder means ended so
pub record RunsOver (l : Loading) (c : Course) (r : Result ⊤ RunFault) : Type 0 where
  pub catalog : CatalogOf
  pub loaded : IsLoaded l catalog
  pub run : IsRun (IsReply catalog) MAX_READS c r

-- nothing was read and nothing written
abbrev pub IsStill : Course → Type 0
IsStill c = (c.source_after ≡ c.source) × (c.sink_after ≡ c.sink)

-- how answering ended: by a run, or with a folder that gave no catalog before anything was read
abbrev pub IsAnswer : Loading → Course → Result ⊤ ProgramFault → Type 0
IsAnswer l c (Ok u) = RunsOver l c (Ok u)
IsAnswer l c (Err (Run fault)) = RunsOver l c (Err fault)
IsAnswer l c (Err (Folder fault)) = IsFolderFault l fault × IsStill c
IsAnswer l c r = ⊥

-- what follows the target in the request of a query: one GET, after which the connection closes
abbrev pub request_end : List ℕ
request_end =
    codes " HTTP/1.1" ++ line_end
    ++ field_line (codes "Host") (codes "localhost")
    ++ field_line (codes "Connection") (codes "close")
    ++ line_end

-- the request of a query
abbrev pub request_to : List ℕ → List ℕ
request_to target = codes "GET " ++ (target ++ request_end)

-- answering the request of a query ended so
pub record AnswersQuery (target : List ℕ) (l : Loading) (old new : SinkOf) (r : Result ⊤ ProgramFault) : Type 0 where
  pub source : SourceOf
  pub source_after : SourceOf
  pub request : source.left ≡ Some (request_to target)
  pub answer : IsAnswer l (course source source_after old new) r

-- how a query ended: as answering its request; or there was no memory for the request, and nothing was done
abbrev pub IsQuery : List ℕ → Loading → SinkOf → SinkOf → Result ⊤ ProgramFault → Type 0
IsQuery target l old new (Err NoMemory) = (l.folders_after ≡ l.folders) × (new ≡ old)
IsQuery target l old new r = AnswersQuery target l old new r
