-- What `clap` says of the program's command, and what its readings ask for.
use Rattle.std.proofs.Common.{◌≡◌, ◌∙◌, ap, arith, get_or, Bool, List, Option, Some, None, Result, inr, refl, sym, subst, codes, true, false}
use Rattle.std.proofs.lemmas.Result.{IfErr-weaker, IfOk-weaker}
use Rattle.std.specs.List.{list_any}
use Rattle.std.specs.Prelude.{IfErr, IfOk}
use Rattle.clap.specs.Facts.{explicit_source, is_explicit}
use Rattle.clap.specs.Walk.{row_of}
use Rattle.clap.specs.Words.{Row, Text, first_of, found_of, is_simple_and_free, matches_of, rows_of, subcommand_of, subcommand_rows_of}
use Rattle.clap.specs.declared.parser.matches.ArgMatches.{ArgMatches}
use Rattle.clap.specs.declared.parser.matches.Found.{Found}
use Rattle.clap.proofs.OnLiterals.{clap_on_literals}
use Rattle.clap.proofs.WalkLemmas.{list_any-map}
use Rattle.cli_args.specs.Fault.{IsReadingOf}
use Rattle.cli_args.specs.declared.fault.ArgsFault.{ArgsFault}
use Rattle.cli_args.specs.declared.fault.ArgsFault.TheVariants.{Usage}
use Rattle.draft_args.specs.declared.words.DraftCommand.{DraftCommand}
use Rattle.draft_args.specs.declared.words.DraftCommand.TheVariants.{Draft, Show, Explain, Convert}
use Rattle.draft_args.specs.DraftCommand.{AsksNot, AsksSo, IsWordsFault, LineAsksFor, whole_command}

pub is_free : is_simple_and_free whole_command ≡ true
unfolding clap_on_literals
is_free = refl

-- ---- readings

-- what holds of the matches holds of the line of which they are the reading
by_reading : (P : List Row → Option (Text × List Row) → Type 0) (line : List Text) (m : ArgMatches) → IsReadingOf whole_command line m
    → P (rows_of (found_of m)) (subcommand_rows_of m) → P (matches_of whole_command line) (subcommand_of whole_command line)
by_reading P line m reading h =
    let ByRows : List Row → Type 0 = λ rows. P rows (subcommand_rows_of m) in
    let BySubcommand : Option (Text × List Row) → Type 0 = λ sub. P (matches_of whole_command line) sub in
    subst BySubcommand reading.subcommand_is (subst ByRows reading.rows_are h)

pub line_asks : (line : List Text) (m : ArgMatches) (read : Result DraftCommand ArgsFault) → IsReadingOf whole_command line m
    → IfOk read (λ words. AsksSo words (rows_of (found_of m)) (subcommand_rows_of m)) → IfOk read (LineAsksFor line)
line_asks line m read reading so = IfOk-weaker read _ (LineAsksFor line)
    (λ words h. (reading.accepted, by_reading (λ rows sub. AsksSo words rows sub) line m reading h)) so

pub line_asks_not : (line : List Text) (m : ArgMatches) (read : Result DraftCommand ArgsFault) → IsReadingOf whole_command line m
    → IfErr read (λ fault. (fault ≡ Usage) × AsksNot (rows_of (found_of m)) (subcommand_rows_of m)) → IfErr read (IsWordsFault line)
line_asks_not line m read reading none = IfErr-weaker read _ (IsWordsFault line)
    (λ fault h. inr (h.0, reading.accepted, by_reading (λ rows sub. AsksNot rows sub) line m reading h.1)) none

-- whether any argument is there, by the rows
pub are_present : (f : Found) (b c : Bool) → b ≡ list_any is_explicit f.entries.items → b ≡ c
    → list_any (λ row. explicit_source row.source) (rows_of f) ≡ c
are_present f b c e s = sym (list_any-map (λ (row : Row). explicit_source row.source) row_of f.entries.items) ∙ (sym e ∙ s)

-- without a folder nothing is asked for
pub no_folder : (rows : List Row) → first_of (codes "folder") rows ≡ None → (words : DraftCommand) → AsksSo words rows None → ⊥
no_folder rows e (Draft asks) h = let bad : None ≡ Some asks.folder.now = sym e ∙ h.folder_is in cc bad
no_folder rows e (Show folder) h = h
no_folder rows e (Explain folder) h = h
no_folder rows e (Convert asks) h = h

-- nor by a subcommand that does not stand alone
pub not_alone : (rows : List Row) (found : Text) (inner : List Row) → list_any (λ row. explicit_source row.source) rows ≡ true
    → (words : DraftCommand) → AsksSo words rows (Some (found, inner)) → ⊥
not_alone rows found inner e (Draft asks) h = h
not_alone rows found inner e (Show folder) h = let bad : true ≡ false = sym e ∙ h.alone in cc bad
not_alone rows found inner e (Explain folder) h = let bad : true ≡ false = sym e ∙ h.alone in cc bad
not_alone rows found inner e (Convert asks) h = let bad : true ≡ false = sym e ∙ h.over.alone in cc bad

-- nor by one without a folder
pub no_inner_folder : (rows : List Row) (found : Text) (inner : List Row) → first_of (codes "folder") inner ≡ None
    → (words : DraftCommand) → AsksSo words rows (Some (found, inner)) → ⊥
no_inner_folder rows found inner e (Draft asks) h = h
no_inner_folder rows found inner e (Show folder) h = let bad : None ≡ Some folder.now = sym e ∙ h.folder_is in cc bad
no_inner_folder rows found inner e (Explain folder) h = let bad : None ≡ Some folder.now = sym e ∙ h.folder_is in cc bad
no_inner_folder rows found inner e (Convert asks) h = let bad : None ≡ Some asks.folder.now = sym e ∙ h.over.folder_is in cc bad

-- nor by `convert` without the folder that is made
pub no_out : (rows : List Row) (inner : List Row) → first_of (codes "out") inner ≡ None
    → (words : DraftCommand) → AsksSo words rows (Some (codes "convert", inner)) → ⊥
no_out rows inner e (Draft asks) h = h
no_out rows inner e (Show folder) h = let bad : 99 ≡ 115 = ap (λ (l : Text). get_or l 0 0) h.name_is in omega (arith, bad)
no_out rows inner e (Explain folder) h = let bad : 99 ≡ 101 = ap (λ (l : Text). get_or l 0 0) h.name_is in omega (arith, bad)
no_out rows inner e (Convert asks) h = let bad : None ≡ Some asks.out.now = sym e ∙ h.options.out_is in cc bad

-- nor by another subcommand
pub other_name : (rows : List Row) (found : Text) (inner : List Row) → (found ≡ codes "show" → ⊥) → (found ≡ codes "explain" → ⊥) → (found ≡ codes "convert" → ⊥)
    → (words : DraftCommand) → AsksSo words rows (Some (found, inner)) → ⊥
other_name rows found inner show explain convert (Draft asks) h = h
other_name rows found inner show explain convert (Show folder) h = show h.name_is
other_name rows found inner show explain convert (Explain folder) h = explain h.name_is
other_name rows found inner show explain convert (Convert asks) h = convert h.over.name_is
