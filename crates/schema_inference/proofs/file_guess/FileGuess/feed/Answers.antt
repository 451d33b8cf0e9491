use Rattle.std.proofs.Common.{◌++◌}
use Rattle.schema_inference.proofs.FileLemmas.{given_on, no_table}
use Rattle.schema_inference.proofs.file_guess.FileGuess.feed.Goals as goal

pub returns-in-Ok-On : goal.returns-in-Ok-On
returns-in-Ok-On c given looking =
    given_on (given ++ c.args.bytes.now) looking.0 c.args.self.windows c.in-Ok-On.windows ((rw c.in-Ok-On.field-0-is at c.in-Ok-On.ensures.reads) given looking.0 looking.1)

pub returns-in_ok-cause_of-in-Err : goal.returns-in_ok-cause_of-in-Err
returns-in_ok-cause_of-in-Err c given looking more =
    let cause = c.in_ok-cause_of-in-Err in
    no_table c.args.guesser.now.aims.limits ((given ++ c.args.bytes.now) ++ more) c.in-Err.fault cause.field-0 cause.ensures.cause cause.ensures.known
    (c.in-Err.ensures.fault given more looking)

pub returns-in_ok-read-in-Ok-Rows : goal.returns-in_ok-read-in-Ok-Rows
returns-in_ok-read-in-Ok-Rows c given looking =
    let reads = (rw c.in-Ok-Rows.field-0-is at c.in-Ok-Rows.ensures.reads) given looking.0 looking.1 in (reads.1, reads.2)
