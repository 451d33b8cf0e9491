use Rattle.text_escapes.proofs.EscapeLemmas.{one_line}
use Rattle.text_escapes.proofs.laws.plain_texts_are_one_line.Goals as goal

pub returns : goal.returns
returns c = one_line
