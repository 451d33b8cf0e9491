use Rattle.csv_fields.proofs.RawLemmas.{field_of-raw_of}
use Rattle.csv_fields.proofs.fields_stand_so.Goals as goal

pub returns : goal.returns
returns c = field_of-raw_of
