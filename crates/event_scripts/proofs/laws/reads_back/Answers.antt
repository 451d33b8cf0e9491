use Rattle.event_scripts.proofs.TextLemmas.{escaped_reads}
use Rattle.event_scripts.proofs.laws.reads_back.Goals as goal

pub returns : goal.returns
returns c = escaped_reads
