use Rattle.text_escapes.proofs.EscapeLemmas.{escaped-one_line}
use Rattle.text_escapes.proofs.laws.escaped_texts_are_one_line.Goals as goal

pub returns : goal.returns
returns c = escaped-one_line
