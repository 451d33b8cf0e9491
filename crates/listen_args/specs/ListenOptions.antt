-- The program's command, as `clap` describes commands, and what its reading of a command line asks for.
use Rattle.std.specs.Prelude.{◌≡◌, ◌⊎◌, ℕ, true, false, List, Option, Some, [], codes, option_map, unwrap_or}
use Rattle.clap.specs.Words.{App, Row, Text, fault_of, first_of, matches_of, one_of, with_rule}
use Rattle.cli_args.specs.Command.{flag_rule, folder_rule, number_rule, optional_rule, program_named, shown_rule, text_rule}
use Rattle.cli_args.specs.Fault.{IsRefusal}
use Rattle.cli_args.specs.Words.{HasFlag, ReadsNumberOfBits, port_rule}
use Rattle.cli_args.specs.declared.fault.ArgsFault.{ArgsFault}
use Rattle.cli_args.specs.declared.fault.ArgsFault.TheVariants.{Usage}
use Rattle.listen_args.specs.declared.words.ListenOptions.{ListenOptions}
use Rattle.listen_args.specs.declared.words.TheConstants.{ADDRESS, HEAD_SECONDS, IDLE_SECONDS, PLACES, QUERY_SECONDS, REPLY_SECONDS}

-- `odata_listen FOLDER [--port P]`, which has a version
abbrev pub folder_and_port : App
folder_and_port =
    with_rule (with_rule (program_named (codes "odata_listen") false) (folder_rule true)) (optional_rule (shown_rule port_rule))

-- `[--address A] [--unix PATH] [--drain-file F]`
abbrev pub with_texts : App → App
with_texts app = with_rule (with_rule (with_rule app (text_rule (codes "address"))) (text_rule (codes "unix"))) (text_rule (codes "drain-file"))

-- `[--socket-stdin] [--plain-files] [--log]`
abbrev pub with_flags : App → App
with_flags app =
    with_rule (with_rule (with_rule app (flag_rule (codes "socket-stdin"))) (flag_rule (codes "plain-files"))) (flag_rule (codes "log"))

-- `[--connections N] [--head-seconds S] [--idle-seconds S]`
abbrev pub with_numbers : App → App
with_numbers app = with_rule (with_rule (with_rule app (number_rule (codes "connections"))) (number_rule (codes "head-seconds")))
    (number_rule (codes "idle-seconds"))

-- `[--query-seconds S] [--reply-seconds S]`
abbrev pub with_limits : App → App
with_limits app = with_rule (with_rule app (number_rule (codes "query-seconds"))) (number_rule (codes "reply-seconds"))

-- `[--most-groups N] [--most-ordered N]`
abbrev pub with_bounds : App → App
with_bounds app = with_rule (with_rule app (number_rule (codes "most-groups"))) (number_rule (codes "most-ordered"))

-- the whole command
abbrev pub listen_app : App
listen_app = with_bounds (with_limits (with_numbers (with_flags (with_texts folder_and_port))))

-- the number of `bits` bits that the text is, or `other` if it is no such number
abbrev pub ReadsNumberOr : ℕ → ℕ → Option Text → ℕ → Type 0
ReadsNumberOr other bits text n = (o : Option ℕ) × ReadsNumberOfBits bits text o × (n ≡ unwrap_or o other)

-- what a reading asks for, by its arguments
pub record AsksBy (words : ListenOptions) (rows : List Row) : Type 0 where
  pub folder : first_of (codes "folder") rows ≡ Some words.folder.now
  pub port : ReadsNumberOfBits 16 (one_of (codes "port") rows) words.port
  pub address : words.address.now ≡ unwrap_or (first_of (codes "address") rows) ADDRESS.now
  pub unix : option_map (λ path. path.now) words.unix ≡ first_of (codes "unix") rows
  pub socket_stdin : HasFlag (one_of (codes "socket-stdin") rows) words.socket_stdin
  pub places : ReadsNumberOr PLACES 32 (one_of (codes "connections") rows) words.places
  pub head_seconds : ReadsNumberOr HEAD_SECONDS 32 (one_of (codes "head-seconds") rows) words.head_seconds
  pub idle_seconds : ReadsNumberOr IDLE_SECONDS 32 (one_of (codes "idle-seconds") rows) words.idle_seconds
  pub query_seconds : ReadsNumberOr QUERY_SECONDS 32 (one_of (codes "query-seconds") rows) words.query_seconds
  pub reply_seconds : ReadsNumberOr REPLY_SECONDS 32 (one_of (codes "reply-seconds") rows) words.reply_seconds
  pub most_groups : ReadsNumberOr 0 32 (one_of (codes "most-groups") rows) words.most_groups
  pub most_ordered : ReadsNumberOr 0 32 (one_of (codes "most-ordered") rows) words.most_ordered
  pub drain_file : option_map (λ file. file.now) words.drain_file ≡ first_of (codes "drain-file") rows
  pub plain_files : HasFlag (one_of (codes "plain-files") rows) words.plain_files
  pub log : HasFlag (one_of (codes "log") rows) words.log

-- `clap` takes the texts, and what it reads asks for these words
abbrev pub AreListenWords : List Text → ListenOptions → Type 0
AreListenWords line words = (fault_of listen_app line ≡ []) × AsksBy words (matches_of listen_app line)

-- the texts ask for nothing
abbrev pub AsksNothing : List Text → Type 0
AsksNothing line = (asked : ListenOptions) → AreListenWords line asked → ⊥

-- why there is nothing to serve: `clap` finds a question for help or for the version, or a mistake, or it takes the texts, which ask for nothing
abbrev pub IsFaultOfWords : List Text → ArgsFault → Type 0
IsFaultOfWords line fault = IsRefusal listen_app line fault ⊎ ((fault ≡ Usage) × (fault_of listen_app line ≡ []) × AsksNothing line)
