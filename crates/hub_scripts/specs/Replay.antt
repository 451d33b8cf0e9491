-- What the lines of a script come to, one after another, and how replaying a script ended.
use Rattle.std.specs.Prelude.{◌≡◌, ◌≢◌, ◌⊎◌, ◌+◌, ⊤, ℕ, List, [], ◌∷◌, ◌++◌, length, take, replicate, None, Result, Ok, Err, Vec}
use Rattle.std.specs.List.{flat_map}
use Rattle.event_scripts.specs.Answers.{line_of}
use Rattle.event_scripts.specs.Command.{CommandOf, IsCommand}
use Rattle.event_scripts.specs.Command as command
use Rattle.event_scripts.specs.Lines.{script_lines}
use Rattle.hub_scripts.specs.Answers.{answer_line}
use Rattle.table_store.specs.Catalog.{CatalogOf}
use Rattle.odata_http.specs.Device.{SinkOf}
use Rattle.odata_http.specs.Answer.{HasWritten, HasFailed}
use Rattle.odata_hub.specs.declared.hub.Hub.{Hub}
use Rattle.odata_hub.specs.Connections.{Answer, Done, Piece, End, Turn, Take}
use Rattle.odata_hub.specs.Schedules.{Event, Open, On, Drop, Reload, Happening, HubOf, HubRun, HubStep, reload}
use Rattle.odata_hub.specs.Stands.{Models}
use Rattle.served_folders.specs.declared.folders.FolderFault.{FolderFault}
use Rattle.exit_statuses.specs.declared.fault.ProgramFault.{ProgramFault}
use Rattle.exit_statuses.specs.declared.fault.ProgramFault.TheVariants.{Folder, Script, Device, NoMemory}
use Rattle.hub_scripts.specs.declared.replay.TheConstants.{PLACES}
use Rattle.exit_statuses.specs.Text.{fault_text}
use Rattle.served_folders.specs.Folders.{FoldersOf, folder_cause}
use Rattle.served_folders.specs.Loads.{IsFolderFault, IsLoaded, loading}

-- where a script stands between two lines: the hub, and what the folders tell and count
pub record Stage : Type 0 where
  pub hub : HubOf
  pub folders : FoldersOf

abbrev pub stage : HubOf → FoldersOf → Stage
stage hub folders = record { hub = hub; folders = folders }

-- what a line comes to: an event, which the hub answered; or a folder that is refused, and the tables stay
pub data Outcome : Type 0 where
  Happened : (happening : Happening) → Outcome
  Kept : (fault : FolderFault) → Outcome

-- the line that is printed of it
abbrev pub outcome_line : Outcome → List ℕ
outcome_line (Happened happening) = answer_line happening.answer
outcome_line (Kept fault) = line_of (fault_text (Folder fault))

-- the lines that are printed, one after another
abbrev pub outcome_lines : List Outcome → List ℕ
outcome_lines outcomes = flat_map outcome_line outcomes

-- the hub answered this event
pub record Happens (event : Event) (old : Stage) (outcome : Outcome) (new : Stage) : Type 0 where
  pub answer : Answer
  pub step : HubStep old.hub event answer new.hub
  pub outcome_is : outcome ≡ Happened (record { event = event; answer = answer })
  pub folders : new.folders ≡ old.folders

-- a folder was loaded, and its tables are the current ones
pub record Reloads (folder : List ℕ) (old : Stage) (outcome : Outcome) (new : Stage) : Type 0 where
  pub catalog : CatalogOf
  pub loaded : IsLoaded (loading folder old.folders new.folders) catalog
  pub step : HubStep old.hub (Reload catalog) Done new.hub
  pub outcome_is : outcome ≡ Happened (reload catalog)

-- a folder is refused, and the tables stay
pub record Keeps (folder : List ℕ) (old : Stage) (outcome : Outcome) (new : Stage) : Type 0 where
  pub fault : FolderFault
  pub refused : IsFolderFault (loading folder old.folders new.folders) fault
  pub caused : folder_cause fault ≢ None
  pub outcome_is : outcome ≡ Kept fault
  pub hub : new.hub ≡ old.hub

-- a command came to this; a piece goes with the current tables
abbrev pub Comes : CommandOf → Stage → Outcome → Stage → Type 0
Comes command.Open old outcome new = Happens Open old outcome new
Comes (command.Piece place bytes) old outcome new = Happens (On place (Piece old.hub.catalog bytes)) old outcome new
Comes (command.End place) old outcome new = Happens (On place End) old outcome new
Comes (command.Turn place) old outcome new = Happens (On place Turn) old outcome new
Comes (command.Take place room) old outcome new = Happens (On place (Take room)) old outcome new
Comes (command.Drop place) old outcome new = Happens (Drop place) old outcome new
Comes (command.Reload folder) old outcome new = Reloads folder old outcome new ⊎ Keeps folder old outcome new

-- a line is a command, which came to this
pub record LineComes (line : List ℕ) (old : Stage) (outcome : Outcome) (new : Stage) : Type 0 where
  pub command : CommandOf
  pub is : IsCommand line command
  pub comes : Comes command old outcome new

-- these lines came to these outcomes, one after another
abbrev pub Plays : List (List ℕ) → Stage → List Outcome → Stage → Type 0
Plays [] old [] new = new ≡ old
Plays (line ∷ lines) old (outcome ∷ outcomes) new = (mid : Stage) × LineComes line old outcome mid × Plays lines mid outcomes new
Plays lines old outcomes new = ⊥

-- the schedule that these outcomes are
abbrev pub schedule_of : List Outcome → List Happening
schedule_of [] = []
schedule_of (Happened happening ∷ outcomes) = happening ∷ schedule_of outcomes
schedule_of (Kept fault ∷ outcomes) = schedule_of outcomes

-- the outcomes of lines are a schedule of the hub
abbrev pub PlaysSchedule : Type 0
PlaysSchedule = (lines : List (List ℕ)) (old new : Stage) (outcomes : List Outcome) → Plays lines old outcomes new
    → HubRun old.hub (schedule_of outcomes) new.hub

-- a script that is played from a stage: the folders after it, and the sink before and after it
pub record Playing : Type 0 where
  pub script : List ℕ
  pub start : Stage
  pub folders_after : FoldersOf
  pub sink : SinkOf
  pub sink_after : SinkOf

abbrev pub playing_of : List ℕ → Stage → FoldersOf → SinkOf → SinkOf → Playing
playing_of script start folders_after sink sink_after =
    record { script = script; start = start; folders_after = folders_after; sink = sink; sink_after = sink_after }

-- these lines were played, up to this stage, and these bytes are the lines that are printed of what they came to
pub record PlaysTo (p : Playing) (lines : List (List ℕ)) (end : Stage) (bytes : List ℕ) : Type 0 where
  pub outcomes : List Outcome
  pub plays : Plays lines p.start outcomes end
  pub bytes_are : bytes ≡ outcome_lines outcomes

-- all lines of the script were played, and what they came to was written
pub record PlaysAll (p : Playing) : Type 0 where
  pub end : Stage
  pub bytes : List ℕ
  pub plays : PlaysTo p (script_lines p.script) end bytes
  pub folders : p.folders_after ≡ end.folders
  pub written : HasWritten p.sink p.sink_after bytes

-- the line of this number, counted from 1, is no command; those before it were played, and what they came to was written
pub record StopsAt (p : Playing) (number : ℕ) : Type 0 where
  pub before : List (List ℕ)
  pub line : List ℕ
  pub behind : List (List ℕ)
  pub lines : script_lines p.script ≡ before ++ line ∷ behind
  pub number_is : number ≡ length before + 1
  pub no_command : (c : CommandOf) → ¬ (IsCommand line c)
  pub end : Stage
  pub bytes : List ℕ
  pub plays : PlaysTo p before end bytes
  pub folders : p.folders_after ≡ end.folders
  pub written : HasWritten p.sink p.sink_after bytes

-- a write failed: some first lines were played, and what they came to was written; of what the next line came to, a front was written
pub record FailsToWrite (p : Playing) : Type 0 where
  pub before : List (List ℕ)
  pub line : List ℕ
  pub behind : List (List ℕ)
  pub lines : script_lines p.script ≡ before ++ line ∷ behind
  pub between : Stage
  pub bytes : List ℕ
  pub plays : PlaysTo p before between bytes
  pub outcome : Outcome
  pub end : Stage
  pub last : LineComes line between outcome end
  pub folders : p.folders_after ≡ end.folders
  pub count : ℕ
  pub failed : HasFailed p.sink p.sink_after (bytes ++ take count (outcome_line outcome))

-- a folder was loaded once: it means a catalog, or gave none
abbrev pub LoadsOnce : List ℕ → FoldersOf → FoldersOf → Type 0
LoadsOnce folder old new =
    ((catalog : CatalogOf) × IsLoaded (loading folder old new) catalog) ⊎ ((fault : FolderFault) × IsFolderFault (loading folder old new) fault)

-- the folders are as they were, or the line asks for a folder, which was loaded once
abbrev pub MayLoad : List ℕ → FoldersOf → FoldersOf → Type 0
MayLoad line old new = (new ≡ old) ⊎ ((folder : List ℕ) × IsCommand line (command.Reload folder) × LoadsOnce folder old new)

-- the same of the next line, where there is one
abbrev pub MayLoadNext : List (List ℕ) → FoldersOf → FoldersOf → Type 0
MayLoadNext [] old new = new ≡ old
MayLoadNext (line ∷ lines) old new = MayLoad line old new

-- memory ran out: some first lines were played, and what they came to was written; a folder that the next line asks for may have been loaded
pub record RunsOut (p : Playing) : Type 0 where
  pub before : List (List ℕ)
  pub behind : List (List ℕ)
  pub lines : script_lines p.script ≡ before ++ behind
  pub end : Stage
  pub bytes : List ℕ
  pub plays : PlaysTo p before end bytes
  pub folders : MayLoadNext behind end.folders p.folders_after
  pub written : HasWritten p.sink p.sink_after bytes

-- a line asks for a folder that gave no catalog, and is not refused: a file could not be read, which none was before, or memory ran out
pub record Lacks (folder : List ℕ) (old new : FoldersOf) (fault : FolderFault) : Type 0 where
  pub load : IsFolderFault (loading folder old new) fault
  pub no_cause : folder_cause fault ≡ None

pub record LacksFolder (p : Playing) (fault : FolderFault) : Type 0 where
  pub before : List (List ℕ)
  pub line : List ℕ
  pub behind : List (List ℕ)
  pub lines : script_lines p.script ≡ before ++ line ∷ behind
  pub folder : List ℕ
  pub asks : IsCommand line (command.Reload folder)
  pub end : Stage
  pub bytes : List ℕ
  pub plays : PlaysTo p before end bytes
  pub lacks : Lacks folder end.folders p.folders_after fault
  pub device : end.folders.device ≡ p.start.folders.device
  pub written : HasWritten p.sink p.sink_after bytes

-- how playing a script ended
abbrev pub IsPlayed : Playing → Result ⊤ ProgramFault → Type 0
IsPlayed p (Ok u) = PlaysAll p
IsPlayed p (Err (Script line)) = StopsAt p line
IsPlayed p (Err Device) = FailsToWrite p
IsPlayed p (Err NoMemory) = RunsOut p
IsPlayed p (Err (Folder fault)) = LacksFolder p fault
IsPlayed p (Err fault) = ⊥

-- ---- a script over a folder

-- a replay: the folder's name, the script, what the folders tell and count, and the sink, before and after it
pub record Replay : Type 0 where
  pub name : List ℕ
  pub script : List ℕ
  pub folders : FoldersOf
  pub folders_after : FoldersOf
  pub sink : SinkOf
  pub sink_after : SinkOf

abbrev pub replay_of : List ℕ → List ℕ → FoldersOf → FoldersOf → SinkOf → SinkOf → Replay
replay_of name script folders folders_after sink sink_after =
    record { name = name; script = script; folders = folders; folders_after = folders_after; sink = sink; sink_after = sink_after }

-- the replay, where the folder was loaded
abbrev pub playing : Replay → Stage → Playing
playing r start = playing_of r.script start r.folders_after r.sink r.sink_after

-- a hub with these tables, whose places are all free
abbrev pub free_hub : CatalogOf → HubOf
free_hub catalog = record { catalog = catalog; places = replicate PLACES None }

-- the folder was loaded, and the script was played from a hub of its tables
pub record Replays (r : Replay) (end : Result ⊤ ProgramFault) : Type 0 where
  pub catalog : CatalogOf
  pub folders : FoldersOf
  pub loaded : IsLoaded (loading r.name r.folders folders) catalog
  pub played : IsPlayed (playing r (stage (free_hub catalog) folders)) end

-- the folder gave no catalog, before anything was written
pub record HasNoCatalog (r : Replay) (fault : FolderFault) : Type 0 where
  pub load : IsFolderFault (loading r.name r.folders r.folders_after) fault
  pub still : r.sink_after ≡ r.sink

-- how replaying a script over a folder ended
abbrev pub IsReplay : Replay → Result ⊤ ProgramFault → Type 0
IsReplay r (Err (Folder fault)) = HasNoCatalog r fault ⊎ Replays r (Err (Folder fault))
IsReplay r end = Replays r end

-- ---- one line, by the hub of the code and what it stands for

-- a hub, what the folders tell and count, and the sink
pub record Place : Type 0 where
  pub hub : Hub
  pub folders : FoldersOf
  pub sink : SinkOf

abbrev pub replay_place : Hub → FoldersOf → SinkOf → Place
replay_place hub folders sink = record { hub = hub; folders = folders; sink = sink }

-- a command came to this from each hub that the old one stands for, and this text is printed of it
pub record ComesTo (c : CommandOf) (old : Stage) (hub : Hub) (folders : FoldersOf) (text : List ℕ) : Type 0 where
  pub outcome : Outcome
  pub new : HubOf
  pub comes : Comes c old outcome (stage new folders)
  pub stands : Models hub new
  pub text_is : text ≡ outcome_line outcome

-- a command leaves the folders as they were, or asks for a folder, which was loaded once
abbrev pub MayAsk : CommandOf → FoldersOf → FoldersOf → Type 0
MayAsk c old new = (new ≡ old) ⊎ ((folder : List ℕ) × (c ≡ command.Reload folder) × LoadsOnce folder old new)

-- how a command was answered: by a line; or memory ran out; or it asked for a folder that gave no catalog and is not refused
abbrev pub IsAnsweredInLine : {A : Type 0} → CommandOf → Hub → FoldersOf → Hub → FoldersOf → Result (Vec ℕ A) ProgramFault → Type 0
IsAnsweredInLine c old before new after (Ok line) = (h : HubOf) → Models old h → ComesTo c (stage h before) new after line.items
IsAnsweredInLine c old before new after (Err NoMemory) = MayAsk c before after
IsAnsweredInLine c old before new after (Err (Folder fault)) = (folder : List ℕ) × (c ≡ command.Reload folder) × Lacks folder before after fault
IsAnsweredInLine c old before new after (Err fault) = ⊥

-- how a fault of a folder that is to be loaded again was answered: by its line, where the folder is refused
abbrev pub IsKeptFolder : {A : Type 0} → FolderFault → Result (Vec ℕ A) ProgramFault → Type 0
IsKeptFolder fault (Ok line) = (folder_cause fault ≢ None) × (line.items ≡ outcome_line (Kept fault))
IsKeptFolder fault (Err NoMemory) = ⊤
IsKeptFolder fault (Err (Folder same)) = (same ≡ fault) × (folder_cause fault ≡ None)
IsKeptFolder fault (Err other) = ⊥

-- how a line was played
abbrev pub IsLinePlayed : List ℕ → ℕ → Place → Place → Result ⊤ ProgramFault → Type 0
IsLinePlayed line number old new (Ok u) = (h : HubOf) → Models old.hub h
    → (c : CommandOf) × IsCommand line c × (bytes : List ℕ) × ComesTo c (stage h old.folders) new.hub new.folders bytes × HasWritten old.sink new.sink bytes
IsLinePlayed line number old new (Err (Script n)) =
    (n ≡ number) × ((c : CommandOf) → ¬ (IsCommand line c)) × (new.folders ≡ old.folders) × (new.sink ≡ old.sink)
IsLinePlayed line number old new (Err Device) = (h : HubOf) → Models old.hub h
    → (c : CommandOf) × IsCommand line c × (bytes : List ℕ) × ComesTo c (stage h old.folders) new.hub new.folders bytes
    × (n : ℕ) × HasFailed old.sink new.sink (take n bytes)
IsLinePlayed line number old new (Err NoMemory) = (new.sink ≡ old.sink) × MayLoad line old.folders new.folders
IsLinePlayed line number old new (Err (Folder fault)) =
    (folder : List ℕ) × IsCommand line (command.Reload folder) × Lacks folder old.folders new.folders fault × (new.sink ≡ old.sink)
IsLinePlayed line number old new (Err fault) = ⊥
