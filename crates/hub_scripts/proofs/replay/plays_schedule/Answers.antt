use Rattle.hub_scripts.proofs.ReplayLemmas.{plays_run}
use Rattle.hub_scripts.proofs.replay.plays_schedule.Goals as goal

pub returns : goal.returns
returns c = plays_run
