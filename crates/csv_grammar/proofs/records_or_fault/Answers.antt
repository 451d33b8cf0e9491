-- The machine's run over the text ends, or stops at a first place.
use Rattle.csv_grammar.proofs.Viable.{records_or_stop}
use Rattle.csv_grammar.proofs.records_or_fault.Goals as goal

pub returns : goal.returns
returns c = record { one = records_or_stop; only = λ bytes records place cause are fault. fault.outside records are }
