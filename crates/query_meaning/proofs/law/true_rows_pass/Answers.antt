use Rattle.query_meaning.proofs.FilterLemmas.{fault, kept, one_row, parts}
use Rattle.query_meaning.proofs.law.true_rows_pass.Goals as goal

pub returns : goal.returns
returns c = record { fault = fault; kept = kept; one = one_row; parts = parts }
