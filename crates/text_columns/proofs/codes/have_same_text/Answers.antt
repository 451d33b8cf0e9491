use Rattle.text_columns.proofs.CodeLemmas.{same-cells}
use Rattle.text_columns.proofs.codes.have_same_text.Goals as goal

pub returns : goal.returns
returns c same = same-cells _ _ _ _ c.text.ensures c.text-2.ensures (c.are_same.ensures same)
