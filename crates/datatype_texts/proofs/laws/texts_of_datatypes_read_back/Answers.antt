-- By the name.
use Rattle.datatype_texts.specs.Laws.{ReadBack}
use Rattle.datatype_texts.proofs.ReadLemmas.{says-again}
use Rattle.datatype_texts.proofs.laws.texts_of_datatypes_read_back.Goals as goal

pub returns : goal.returns
unfolding ReadBack
returns c = says-again
