use Rattle.std.proofs.Common.{◌∙◌}
use Rattle.query_exec.proofs.ReadLemmas.{wanted_is_next}
use Rattle.query_exec.proofs.run.Run.next.Goals as goal

pub returns-in-Reading-clause-needed : goal.returns-in-Reading-clause-needed
returns-in-Reading-clause-needed c = λ plan table handed stands. c.wanted.ensures ∙ wanted_is_next c.args.self.now plan table handed stands.read
