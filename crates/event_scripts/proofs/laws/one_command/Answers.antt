use Rattle.event_scripts.proofs.WordLemmas.{line_is_one}
use Rattle.event_scripts.proofs.laws.one_command.Goals as goal

pub returns : goal.returns
returns c = line_is_one
