-- One argument after the other.
use Rattle.std.specs.Prelude.{codes, true}
use Rattle.clap.specs.Words.{new_app, with_rule}
use Rattle.cli_args.specs.Command.{flag_rule, folder_rule}
use Rattle.draft_args.specs.Conversion.{places_app, skip_app}
use Rattle.draft_args.proofs.conversion.command_with_flags.Goals as goal

pub returns : goal.returns
returns c = c.add_flag.ensures.app (with_rule (with_rule skip_app (flag_rule (codes "pad"))) (flag_rule (codes "round")))
    (c.add_flag-round.ensures.app (with_rule skip_app (flag_rule (codes "pad")))
    (c.add_flag-pad.ensures.app skip_app
    (c.add_flag-skip.ensures.app (with_rule places_app (flag_rule (codes "dry-run")))
    (c.add_flag-dry.ensures.app places_app
    (c.add_place-out.ensures.app (with_rule (new_app (codes "convert")) (folder_rule true))
    (c.add_folder-folder.ensures.app (new_app (codes "convert")) c.inner_command-inner.ensures.app))))))
