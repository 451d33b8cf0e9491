-- What is written is the content of each field that stands so.
use Rattle.std.proofs.Common.{arith}
use Rattle.csv_fields.proofs.RawLemmas.{content-from_raw}
use Rattle.csv_fields.proofs.raw.Raw.text.Goals as goal

pub returns-in_ok-halved-clause-field : goal.returns-in_ok-halved-clause-field
returns-in_ok-halved-clause-field c field e = grind (arith, content-from_raw field _ e)

pub returns-else-self-clause-field : goal.returns-else-self-clause-field
returns-else-self-clause-field c field e = grind (arith, content-from_raw field _ e)
