-- The subcommand `convert`, as `clap` describes commands, and what its words ask for.
use Rattle.std.specs.Prelude.{◌≡◌, true, List, Some, codes, option_map}
use Rattle.clap.specs.Words.{App, Row, first_of, new_app, one_of, with_rule}
use Rattle.cli_args.specs.Command.{flag_rule, folder_rule, number_rule, place_rule, text_rule}
use Rattle.cli_args.specs.Words.{HasFlag, ReadsNumberOfBits}
use Rattle.draft_args.specs.declared.conversion.Conversion.{Conversion}

-- `convert FOLDER OUT`
abbrev pub places_app : App
places_app = with_rule (with_rule (new_app (codes "convert")) (folder_rule true)) (place_rule (codes "out"))

-- `convert FOLDER OUT [--dry-run] [--skip-refused] [--pad] [--round] [--json]`
abbrev pub skip_app : App
skip_app = with_rule (with_rule places_app (flag_rule (codes "dry-run"))) (flag_rule (codes "skip-refused"))

abbrev pub flags_app : App
flags_app = with_rule (with_rule (with_rule skip_app (flag_rule (codes "pad"))) (flag_rule (codes "round"))) (flag_rule (codes "json"))

-- the same with `[--skip-lines N] [--null TEXT] [--columns FILE]`
abbrev pub lines_app : App
lines_app = with_rule flags_app (number_rule (codes "skip-lines"))

abbrev pub null_app : App
null_app = with_rule lines_app (text_rule (codes "null"))

abbrev pub convert_app : App
convert_app = with_rule null_app (text_rule (codes "columns"))

-- what a conversion is asked for by, after its folder
pub record SaysOptions (asks : Conversion) (inner : List Row) : Type 0 where
  pub out_is : first_of (codes "out") inner ≡ Some asks.out.now
  pub dry_run_is : HasFlag (one_of (codes "dry-run") inner) asks.dry_run
  pub skip_is : HasFlag (one_of (codes "skip-refused") inner) asks.skip
  pub pad_is : HasFlag (one_of (codes "pad") inner) asks.pad
  pub round_is : HasFlag (one_of (codes "round") inner) asks.round
  pub json_is : HasFlag (one_of (codes "json") inner) asks.json
  pub lines_are : ReadsNumberOfBits 32 (one_of (codes "skip-lines") inner) asks.skip_lines
  pub null_is : option_map (λ text. text.now) asks.null ≡ first_of (codes "null") inner
  pub columns_are : option_map (λ text. text.now) asks.columns ≡ first_of (codes "columns") inner
