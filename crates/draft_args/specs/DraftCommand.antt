-- The program's command, as `clap` describes commands, and what its reading of a command line asks for.
use Rattle.std.specs.Prelude.{◌≡◌, ◌⊎◌, true, false, not, List, [], Option, Some, None, codes}
use Rattle.std.specs.List.{list_any}
use Rattle.clap.specs.Facts.{explicit_source}
use Rattle.clap.specs.Words.{App, Row, Text, fault_of, first_of, matches_of, one_of, subcommand_of, with_rule, with_subcommand}
use Rattle.cli_args.specs.Command.{flag_rule, folder_rule, over_folder, program_named}
use Rattle.cli_args.specs.Fault.{IsRefusal}
use Rattle.cli_args.specs.Words.{HasFlag}
use Rattle.cli_args.specs.declared.fault.ArgsFault.{ArgsFault}
use Rattle.cli_args.specs.declared.fault.ArgsFault.TheVariants.{Usage}
use Rattle.draft_args.specs.declared.words.DraftOptions.{DraftOptions}
use Rattle.draft_args.specs.declared.words.DraftCommand.{DraftCommand}
use Rattle.draft_args.specs.declared.words.DraftCommand.TheVariants.{Draft, Show, Explain, Convert}
use Rattle.draft_args.specs.declared.conversion.Conversion.{Conversion}
use Rattle.draft_args.specs.Conversion.{SaysOptions, convert_app}

-- `csvw_draft`, which has a version; `help` is no word of it
abbrev pub versioned_app : App
versioned_app = program_named (codes "csvw_draft") true

-- `csvw_draft [FOLDER]`
abbrev pub with_folder : App
with_folder = with_rule versioned_app (folder_rule false)

-- `csvw_draft [FOLDER] [--write] [--no-key]`
abbrev pub with_keys : App
with_keys = with_rule (with_rule with_folder (flag_rule (codes "write"))) (flag_rule (codes "no-key"))

-- `csvw_draft [FOLDER] [--write] [--no-key] [--skip-refused] [--add]`
abbrev pub draft_app : App
draft_app = with_rule (with_rule with_keys (flag_rule (codes "skip-refused"))) (flag_rule (codes "add"))

-- the same with `show FOLDER` and `explain FOLDER`
abbrev pub folder_commands : App
folder_commands = with_subcommand (with_subcommand draft_app (over_folder (codes "show")).top) (over_folder (codes "explain")).top

-- the whole command, with `convert FOLDER OUT` and its options
abbrev pub whole_command : App
whole_command = with_subcommand folder_commands convert_app.top

-- what a draft is asked for by
pub record SaysDraft (asks : DraftOptions) (rows : List Row) : Type 0 where
  pub folder_is : first_of (codes "folder") rows ≡ Some asks.folder.now
  pub write_is : HasFlag (one_of (codes "write") rows) asks.write
  pub keys_are : HasFlag (one_of (codes "no-key") rows) (not asks.keys)
  pub skip_is : HasFlag (one_of (codes "skip-refused") rows) asks.skip
  pub add_is : HasFlag (one_of (codes "add") rows) asks.add

-- a subcommand over a folder, before which no argument stands
pub record SaysFolder (name folder : Text) (rows : List Row) (found : Text) (inner : List Row) : Type 0 where
  pub alone : list_any (λ row. explicit_source row.source) rows ≡ false
  pub name_is : found ≡ name
  pub folder_is : first_of (codes "folder") inner ≡ Some folder

-- the subcommand `convert`, before which no argument stands, with what it is asked for by
pub record SaysConversion (asks : Conversion) (rows : List Row) (found : Text) (inner : List Row) : Type 0 where
  pub over : SaysFolder (codes "convert") asks.folder.now rows found inner
  pub options : SaysOptions asks inner

-- what a reading asks for, by its arguments, and by its subcommand with that one's
abbrev pub AsksSo : DraftCommand → List Row → Option (Text × List Row) → Type 0
AsksSo (Draft asks) rows None = SaysDraft asks rows
AsksSo (Show folder) rows (Some (found, inner)) = SaysFolder (codes "show") folder.now rows found inner
AsksSo (Explain folder) rows (Some (found, inner)) = SaysFolder (codes "explain") folder.now rows found inner
AsksSo (Convert asks) rows (Some (found, inner)) = SaysConversion asks rows found inner
AsksSo words rows reading = ⊥

-- a reading asks for nothing
abbrev pub AsksNot : List Row → Option (Text × List Row) → Type 0
AsksNot rows reading = (words : DraftCommand) → AsksSo words rows reading → ⊥

-- `clap` takes the texts
abbrev pub IsAcceptedLine : List Text → Type 0
IsAcceptedLine line = fault_of whole_command line ≡ []

-- `clap` takes the texts, and what it reads asks for these words
abbrev pub LineAsksFor : List Text → DraftCommand → Type 0
LineAsksFor line words = IsAcceptedLine line × AsksSo words (matches_of whole_command line) (subcommand_of whole_command line)

-- why nothing is done: `clap` finds a question for help or for the version, or a mistake, or it takes the texts, which ask for nothing
abbrev pub IsWordsFault : List Text → ArgsFault → Type 0
IsWordsFault line fault = IsRefusal whole_command line fault
    ⊎ ((fault ≡ Usage) × IsAcceptedLine line × AsksNot (matches_of whole_command line) (subcommand_of whole_command line))
