use Rattle.odata_types.proofs.KeyLemmas.{kind_answers}
use Rattle.odata_types.proofs.law.literals_have_values.Goals as goal

pub returns : goal.returns
returns c = kind_answers
