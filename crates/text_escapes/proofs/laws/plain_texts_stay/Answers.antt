use Rattle.text_escapes.proofs.EscapeLemmas.{plain-stays}
use Rattle.text_escapes.proofs.laws.plain_texts_stay.Goals as goal

pub returns : goal.returns
returns c = plain-stays
