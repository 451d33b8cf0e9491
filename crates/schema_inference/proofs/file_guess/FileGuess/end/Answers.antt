use Rattle.std.proofs.Common.{◌≤◌, arith}
use Rattle.csv_grammar.specs.Raw.{RawTable}
use Rattle.csv_windows.specs.declared.front.FirstLines.{FirstLines}
use Rattle.csv_windows.specs.declared.front.TableSize.{TableSize}
use Rattle.schema_inference.proofs.FileLemmas.{no_table, table_of_width}
use Rattle.schema_inference.proofs.file_guess.FileGuess.end.Goals as goal

pub returns-then-columns-guesser : goal.returns-then-columns-guesser
returns-then-columns-guesser c given looking =
    let end : FirstLines × RawTable × TableSize = (c.in-Ok.field-0-0, c.in-Ok.rows, c.in-Ok.size) in
    (table_of_width given looking.0 c.args.self.windows end looking.1 (c.in-Ok.ensures.rows given looking.0 looking.1), c.if-columns-guesser.true)

pub returns-in_ok-end-in-Ok : goal.returns-in_ok-end-in-Ok
returns-in_ok-end-in-Ok c given looking =
    let end : FirstLines × RawTable × TableSize = (c.in-Ok.field-0-0, c.in-Ok.rows, c.in-Ok.size) in
    let most : c.in-Ok.size.width ≤ c.args.guesser.now.aims.limits.columns = omega (arith, c.if-columns-guesser.false) in
    (c.in-Ok.size.width, table_of_width given looking.0 c.args.self.windows end looking.1 (c.in-Ok.ensures.rows given looking.0 looking.1), most)

pub returns-in_ok-cause_of-in-Err : goal.returns-in_ok-cause_of-in-Err
returns-in_ok-cause_of-in-Err c given looking =
    let cause = c.in_ok-cause_of-in-Err in
    no_table c.args.guesser.now.aims.limits given c.in-Err.fault cause.field-0 cause.ensures.cause cause.ensures.known (c.in-Err.ensures.fault given looking)
