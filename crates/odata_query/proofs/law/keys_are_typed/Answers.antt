use Rattle.odata_query.proofs.KeyLemmas.{key_answers}
use Rattle.odata_query.proofs.law.keys_are_typed.Goals as goal

pub returns : goal.returns
returns c = key_answers c.literals_have_values.ensures
