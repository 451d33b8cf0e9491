use Rattle.text_escapes.proofs.EscapeLemmas.{texts_same}
use Rattle.text_escapes.proofs.laws.texts_stay_apart.Goals as goal

pub returns : goal.returns
returns c = texts_same
