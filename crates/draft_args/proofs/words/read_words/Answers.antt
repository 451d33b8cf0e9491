use Rattle.std.proofs.Common.{inl}
use Rattle.cli_args.specs.Words.{texts}
use Rattle.draft_args.proofs.WordLemmas.{line_asks, line_asks_not}
use Rattle.draft_args.proofs.words.read_words.Goals as goal

pub returns-in-Ok : goal.returns-in-Ok
returns-in-Ok c =
    let line = texts c.args.words.now in record {
      words = line_asks line c.in-Ok.matches c.matches_words.result c.in-Ok.ensures.matches c.matches_words.ensures.words;
      fault = line_asks_not line c.in-Ok.matches c.matches_words.result c.in-Ok.ensures.matches c.matches_words.ensures.fault;
    }

pub returns-in-Err-clause-fault : goal.returns-in-Err-clause-fault
returns-in-Err-clause-fault c = inl c.in-Err.ensures.fault
