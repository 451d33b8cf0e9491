use Rattle.row_eval.proofs.DateLemmas.{date_is_in, dates_hold}
use Rattle.row_eval.proofs.law.dates_are_compared.Goals as goal

pub returns : goal.returns
returns c = record { comparisons = dates_hold; lists = date_is_in }
