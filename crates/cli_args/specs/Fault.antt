-- What `clap` makes of the texts of a command line, and why a program has nothing to do.
use Rattle.std.specs.Prelude.{◌≡◌, ◌⊎◌, ⊤, List, []}
use Rattle.clap.specs.Words.{App, IsAmong, Text, fault_of, found_of, kind_of, matches_of, rows_of, subcommand_of, subcommand_rows_of}
use Rattle.clap.specs.declared.error.ErrorKind.{ErrorKind}
use Rattle.clap.specs.declared.error.ErrorKind.TheVariants.{DisplayHelp, DisplayVersion, OutOfMemory}
use Rattle.clap.specs.declared.parser.matches.ArgMatches.{ArgMatches}
use Rattle.cli_args.specs.declared.fault.ArgsFault.{ArgsFault}
use Rattle.cli_args.specs.declared.fault.ArgsFault.TheVariants.{Shows, Usage, NoMemory}

-- `clap` takes the texts, and the matches are its reading of them
pub record IsReadingOf (app : App) (line : List Text) (matches : ArgMatches) : Type 0 where
  pub accepted : fault_of app line ≡ []
  pub rows_are : rows_of (found_of matches) ≡ matches_of app line
  pub subcommand_is : subcommand_rows_of matches ≡ subcommand_of app line

-- a question for help or for the version
abbrev pub IsQuestion : ErrorKind → Type 0
IsQuestion kind = (kind ≡ DisplayHelp) ⊎ (kind ≡ DisplayVersion)

-- `clap` finds a mistake in the texts
pub record HasMistake (app : App) (line : List Text) : Type 0 where
  pub kind : ErrorKind
  pub found : IsAmong kind (fault_of app line)
  pub mistake : IsQuestion kind → ⊥

-- why nothing is done where `clap` fails with an error of that kind: the error itself, for a question
abbrev pub IsFaultBy : ErrorKind → ArgsFault → Type 0
IsFaultBy kind (Shows error) = IsQuestion kind × (kind ≡ kind_of error)
IsFaultBy kind Usage = (kind ≡ OutOfMemory → ⊥) × (IsQuestion kind → ⊥)
IsFaultBy kind NoMemory = kind ≡ OutOfMemory

-- why `clap` does not take the texts: it finds a question for help or for the version, or a mistake
abbrev pub IsRefusal : App → List Text → ArgsFault → Type 0
IsRefusal app line (Shows error) = IsQuestion (kind_of error) × IsAmong (kind_of error) (fault_of app line)
IsRefusal app line Usage = HasMistake app line
IsRefusal app line NoMemory = ⊤
