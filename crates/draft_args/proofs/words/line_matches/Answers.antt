-- One option after the other, and one subcommand after the other.
use Rattle.std.proofs.Common.{refl}
use Rattle.std.specs.Prelude.{codes}
use Rattle.clap.specs.Words.{with_rule, with_subcommand}
use Rattle.cli_args.specs.Command.{flag_rule, over_folder}
use Rattle.draft_args.specs.Conversion.{convert_app}
use Rattle.draft_args.specs.DraftCommand.{draft_app, folder_commands, versioned_app, whole_command, with_folder, with_keys}
use Rattle.draft_args.proofs.WordLemmas.{is_free}
use Rattle.draft_args.proofs.words.line_matches.Goals as goal

pub returns : goal.returns
returns c =
    let seven = c.add_folder_command-seven.ensures.app (with_subcommand draft_app (over_folder (codes "show")).top)
    (c.add_folder_command-six.ensures.app draft_app
    (c.add_flag-five.ensures.app (with_rule with_keys (flag_rule (codes "skip-refused")))
    (c.add_flag-four.ensures.app with_keys
    (c.add_flag-three.ensures.app (with_rule with_folder (flag_rule (codes "write")))
    (c.add_flag-two.ensures.app with_folder (c.add_folder-one.ensures.app versioned_app c.top_command-top.ensures.app)))))) in
    let whole = c.add_command-whole.ensures.app folder_commands convert_app seven c.convert_command.ensures refl in record {
      matches = c.matches_of.ensures.matches whole_command whole is_free;
      fault = c.matches_of.ensures.fault whole_command whole is_free;
    }
