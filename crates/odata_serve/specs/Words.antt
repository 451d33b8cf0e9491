-- The program's command, as `clap` describes commands, and what its reading of a command line asks for.
use Rattle.std.specs.Prelude.{◌≡◌, List, Option, Some, None, [], codes, pos, true}
use Rattle.std.specs.Borrow.{Bor}
use Rattle.clap.specs.Words.{App, Row, Rule, Text, fault_of, first_of, new_app, one_of, subcommand_of, with_rule, with_subcommand}
use Rattle.clap.specs.declared.builder.ValueParser.TheVariants as parser
use Rattle.cli_args.specs.Words.{IsNumberOfBits, port_rule, required_rule}
use Rattle.odata_serve.specs.declared.words.Words.{Words}
use Rattle.odata_serve.specs.declared.words.Words.TheVariants.{Nothing, Check, Query, Answer, Replay, Serve}

-- `--connections N`, a number of 32 bits
abbrev pub connections_rule : Rule
connections_rule = record (required_rule (codes "connections")) {
  long = Some (codes "connections");
  parser = Some (parser.Signed (pos 0) (pos 4294967295));
}

-- `NAME FOLDER`
abbrev pub folder_app : Text → App
folder_app name = with_rule (new_app name) (required_rule (codes "folder"))

-- `NAME FOLDER SECOND`
abbrev pub folder_and_app : Text → Text → App
folder_and_app name second = with_rule (folder_app name) (required_rule second)

-- `serve FOLDER --port P --connections N`
abbrev pub serve_app : App
serve_app = with_rule (with_rule (folder_app (codes "serve")) port_rule) connections_rule

-- the command without its subcommands; `help` is none of them
abbrev pub top_app : App
top_app = record { top = record (new_app (codes "magpiecoffer")).top { disable_help_subcommand = true }; subs = [] }

-- the whole command: `check FOLDER`, `query FOLDER TARGET`, `answer FOLDER FILE`, `replay FOLDER SCRIPT`, `serve FOLDER --port P --connections N`
abbrev pub program_app : App
program_app = with_subcommand (with_subcommand (with_subcommand (with_subcommand (with_subcommand top_app
    (folder_app (codes "check")).top)
    (folder_and_app (codes "query") (codes "target")).top)
    (folder_and_app (codes "answer") (codes "file")).top)
    (folder_and_app (codes "replay") (codes "script")).top)
    serve_app.top

-- what a subcommand with these arguments asks for
abbrev pub SubcommandSays : Words → Text → List Row → Type 0
SubcommandSays Nothing name rows = ⊥
SubcommandSays (Check folder) name rows = (name ≡ codes "check") × (first_of (codes "folder") rows ≡ Some folder.now)
SubcommandSays (Query folder target) name rows = (name ≡ codes "query") × (first_of (codes "folder") rows ≡ Some folder.now)
    × (first_of (codes "target") rows ≡ Some target.now)
SubcommandSays (Answer folder file) name rows = (name ≡ codes "answer") × (first_of (codes "folder") rows ≡ Some folder.now)
    × (first_of (codes "file") rows ≡ Some file.now)
SubcommandSays (Replay folder script) name rows = (name ≡ codes "replay") × (first_of (codes "folder") rows ≡ Some folder.now)
    × (first_of (codes "script") rows ≡ Some script.now)
SubcommandSays (Serve folder port connections) name rows = (name ≡ codes "serve") × (first_of (codes "folder") rows ≡ Some folder.now)
    × IsNumberOfBits 16 (one_of (codes "port") rows) port
    × IsNumberOfBits 32 (one_of (codes "connections") rows) connections

-- what a reading asks for, by its subcommand and that one's arguments; without a subcommand nothing
abbrev pub SaysWords : Words → Option (Text × List Row) → Type 0
SaysWords words None = words ≡ Nothing
SaysWords words (Some (name, rows)) = SubcommandSays words name rows

-- no words ask for what the reading has
abbrev pub SaysNothing : Option (Text × List Row) → Type 0
SaysNothing reading = (words : Words) → SaysWords words reading → ⊥

-- `clap` takes the texts
abbrev pub IsTaken : List Text → Type 0
IsTaken line = fault_of program_app line ≡ []

-- `clap` takes the texts, and what it reads asks for these words
abbrev pub AreWords : List Text → Words → Type 0
AreWords line words = IsTaken line × SaysWords words (subcommand_of program_app line)

-- what `clap` reads of the texts asks for a script to be played
abbrev pub AsksForReplay : List Text → Type 0
AsksForReplay line = (folder script : Bor Text) × AreWords line (Replay folder script)
