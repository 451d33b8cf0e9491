use Rattle.std.proofs.Common.{refl}
use Rattle.clap.specs.Words.{new_app}
use Rattle.cli_args.specs.Command.{over_folder}
use Rattle.cli_args.proofs.command.add_folder_command.Goals as goal

pub returns : goal.returns
returns c =
    let name = c.args.name.now in
    record { app = λ app made. c.add_command.ensures.app app (over_folder name) made (c.add_folder.ensures.app (new_app name) c.inner_command-named.ensures.app) refl }
