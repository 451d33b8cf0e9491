use Rattle.std.proofs.Common.{Result, subst}
use Rattle.std.specs.declared.alloc.AllocError.{AllocError}
use Rattle.clap.specs.Words.{app_of}
use Rattle.clap.specs.declared.builder.command.Command.{Command}
use Rattle.cli_args.specs.Command.{MakesCommand}
use Rattle.cli_args.specs.Words.{texts}
use Rattle.cli_args.proofs.CommandLemmas.{reads_by, refused_by}
use Rattle.cli_args.proofs.command.matches_of.Goals as goal

pub returns-in-Ok-try_get_matches_from-clause-matches : goal.returns-in-Ok-try_get_matches_from-clause-matches
returns-in-Ok-try_get_matches_from-clause-matches c = λ app made free.
    let Made : Result Command AllocError → Type 0 = λ r. MakesCommand r app in
    let took = c.in-Ok-try_get_matches_from in
    reads_by (app_of c.in-Ok.command) app (texts c.args.words.now) took.matches (subst Made c.in-Ok.is made) free took.ensures.matches took.ensures.kinds

pub returns-in-Err-clause-fault : goal.returns-in-Err-clause-fault
returns-in-Err-clause-fault c = λ app made free.
    let Made : Result Command AllocError → Type 0 = λ r. MakesCommand r app in
    refused_by (app_of c.in-Ok.command) app (texts c.args.words.now) c.in-Err.error c.fault_by.result (subst Made c.in-Ok.is made) free
    c.in-Err.ensures.kinds c.fault_by.ensures
