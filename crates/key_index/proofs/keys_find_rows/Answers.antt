use Rattle.key_index.proofs.AreKeysLemmas.{are_keys}
use Rattle.key_index.proofs.keys_find_rows.Goals as goal

pub returns : goal.returns
returns c = are_keys c.values_are_ordered.ensures.equal
