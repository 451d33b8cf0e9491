-- The commands of the programs over folders, as `clap` describes commands.
use Rattle.std.specs.Prelude.{◌≡◌, Bool, false, true, [], Some, Result, IfOk, codes, pos}
use Rattle.std.specs.declared.alloc.AllocError.{AllocError}
use Rattle.clap.specs.Words.{App, Rule, Text, app_of, new_app, new_rule, with_rule}
use Rattle.clap.specs.declared.builder.ValueParser.TheVariants as parser
use Rattle.clap.specs.declared.builder.action.ArgAction.TheVariants.{SetTrue}
use Rattle.clap.specs.declared.builder.command.Command.{Command}

-- the same argument, whose value help calls by one name
abbrev pub shown_rule : Rule → Rule
shown_rule rule = record rule { value_names = 1 }

-- the same argument, which may be left out
abbrev pub optional_rule : Rule → Rule
optional_rule rule = record rule { required = false }

-- `ID`, which is needed
abbrev pub place_rule : Text → Rule
place_rule id = record (shown_rule (new_rule id)) { required = true }

-- `[FOLDER]`, or `FOLDER` where it is needed
abbrev pub folder_rule : Bool → Rule
folder_rule needed = record (shown_rule (new_rule (codes "folder"))) { required = needed }

-- `--ID TEXT`
abbrev pub text_rule : Text → Rule
text_rule id = shown_rule (record (new_rule id) { long = Some id })

-- `--ID N`, a number of 32 bits
abbrev pub number_rule : Text → Rule
number_rule id = shown_rule (record (new_rule id) { long = Some id; parser = Some (parser.Signed (pos 0) (pos 4294967295)) })

-- `--ID`
abbrev pub flag_rule : Text → Rule
flag_rule id = record (new_rule id) { long = Some id; action = Some SetTrue }

-- `NAME`, which has a version: `clap` gives it `-h`, `--help`, `-V` and `--version`, and where it has subcommands `help` beside them, but where that is left out
abbrev pub program_named : Text → Bool → App
program_named name no_help = record { top = record (new_app name).top { has_version = true; disable_help_subcommand = no_help }; subs = [] }

-- `NAME FOLDER`
abbrev pub over_folder : Text → App
over_folder name = with_rule (new_app name) (folder_rule true)

-- what was made is this command, where memory was had for it
abbrev pub MakesCommand : Result Command AllocError → App → Type 0
MakesCommand made app = IfOk made (λ command. app_of command ≡ app)
