-- What a command that was made is, and what `clap` reads by it.
use Rattle.std.proofs.Common.{◌≡◌, [], List, subst, true}
use Rattle.clap.specs.Words.{App, HasMatchesOf, Text, fault_of, is_simple, is_simple_and_free, kind_of}
use Rattle.clap.specs.Faults.{is_free_app}
use Rattle.clap.specs.Kinds.{HasKind}
use Rattle.clap.specs.Simple.{built}
use Rattle.clap.specs.declared.error.Error.{Error}
use Rattle.clap.specs.declared.parser.matches.ArgMatches.{ArgMatches}
use Rattle.clap.proofs.WalkLemmas.{both}
use Rattle.cli_args.specs.Fault.{IsFaultBy, IsReadingOf, IsRefusal}
use Rattle.cli_args.specs.declared.fault.ArgsFault.{ArgsFault}
use Rattle.cli_args.proofs.FaultLemmas.{refusal_for}

-- by a command that was made as this one
pub reads_by : (made app : App) (line : List Text) (matches : ArgMatches) → made ≡ app → is_simple_and_free app ≡ true → HasMatchesOf made line matches
    → (is_simple_and_free made ≡ true → fault_of made line ≡ []) → IsReadingOf app line matches
reads_by made app line matches e free has none =
    let Has : App → Type 0 = λ a. HasMatchesOf a line matches in
    let Takes : App → Type 0 = λ a. is_simple_and_free a ≡ true → fault_of a line ≡ [] in
    let read = subst Has e has (both (is_simple app) (is_free_app (built app)) free).0 in
    record { accepted = subst Takes e none free; rows_are = read.0; subcommand_is = read.1 }

pub refused_by : (made app : App) (line : List Text) (error : Error) (fault : ArgsFault) → made ≡ app → is_simple_and_free app ≡ true
    → (is_simple_and_free made ≡ true → HasKind (fault_of made line) error) → IsFaultBy (kind_of error) fault → IsRefusal app line fault
refused_by made app line error fault e free fails by =
    let Fails : App → Type 0 = λ a. is_simple_and_free a ≡ true → HasKind (fault_of a line) error in
    refusal_for (kind_of error) fault app line (subst Fails e fails free) by
