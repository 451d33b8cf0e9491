use Rattle.reply_values.proofs.FieldLemmas.{field_is}
use Rattle.reply_values.proofs.JsonLemmas.{is_value}
use Rattle.reply_values.proofs.laws.values_read_back.Goals as goal

pub returns : goal.returns
returns c = record { json = is_value; csv = field_is }
