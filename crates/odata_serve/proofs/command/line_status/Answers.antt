use Rattle.std.proofs.Common.{inr, subst}
use Rattle.odata_serve.specs.declared.words.Words.{Words}
use Rattle.odata_serve.specs.Words.{AreWords}
use Rattle.cli_args.specs.Words.{texts}
use Rattle.odata_serve.proofs.command.line_status.Goals as goal

pub returns-in-Ok-Replay-clause-taken : goal.returns-in-Ok-Replay-clause-taken
returns-in-Ok-Replay-clause-taken g c = λ taken. inr (
  c.in-Ok-Replay.folder,
  c.in-Ok-Replay.script,
  subst (λ (w : Words). AreWords (texts c.args.line.now) w) c.in-Ok-Replay.field-0-is c.in-Ok-Replay.ensures.words,
)
