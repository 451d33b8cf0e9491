-- The machine reads each tree of the bytes back, and it is one machine.
use Rattle.csv_grammar.proofs.Viable.{records_unique}
use Rattle.csv_grammar.proofs.one_list_of_records.Goals as goal

pub returns : goal.returns
returns c = records_unique
