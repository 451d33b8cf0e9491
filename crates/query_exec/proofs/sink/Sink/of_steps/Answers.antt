use Rattle.std.proofs.Common.{refl}
use Rattle.query_exec.proofs.SliceLemmas.{no_piece}
use Rattle.query_exec.proofs.sink.Sink.of_steps.Goals as goal

pub returns-in-Slice-clause-none : goal.returns-in-Slice-clause-none
returns-in-Slice-clause-none c = no_piece _ refl c.requires.none
