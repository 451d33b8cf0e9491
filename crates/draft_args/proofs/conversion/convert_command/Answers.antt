-- One option after the other.
use Rattle.draft_args.specs.Conversion.{flags_app, lines_app, null_app}
use Rattle.draft_args.proofs.conversion.convert_command.Goals as goal

pub returns : goal.returns
returns c = c.add_text.ensures.app null_app (c.add_text-null.ensures.app lines_app (c.add_number-lines.ensures.app flags_app c.command_with_flags-flags.ensures))
