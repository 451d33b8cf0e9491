-- Texts on the rows that are wanted.
use Rattle.std.proofs.Common.{ℕ, Bool, Option, Some, List, sym, ap, ◌∙◌}
use Rattle.cell_types.specs.Value.{CellValue}
use Rattle.row_eval.specs.declared.truth.Truth.{Truth}
use Rattle.text_kernels.specs.declared.relation.TextRelation.{TextRelation}
use Rattle.text_kernels.specs.declared.texts.Texts.{Texts}
use Rattle.text_kernels.specs.Texts.{related, text_lane, AreRelated}
use Rattle.block_eval.specs.declared.columns.BlockColumn.{BlockColumn}
use Rattle.block_eval.specs.Lanes.{GivesTruths}
use Rattle.block_eval.specs.Texts.{GivesTexts}
use Rattle.block_eval.proofs.LogicLemmas.{wanted_within}

-- what a relation says of texts that are there on each wanted row
pub related-gives : (r : TextRelation) (f g : List CellValue → Option (List ℕ)) (cs : List BlockColumn) (wanted : List Bool) (a b : Texts) (ts : List Truth)
    → GivesTexts f cs wanted a → GivesTexts g cs wanted b → AreRelated r a b wanted ts → GivesTruths (λ cells. Some (related r (f cells) (g cells))) cs wanted ts
related-gives r f g cs wanted a b ts left right is = record {
  each = λ row cells h at.
      ap (λ x. Some (related r x (g cells))) (left.each row cells h at) ∙ ap (λ y. Some (related r (text_lane a row) y)) (right.each row cells h at)
      ∙ ap (λ t. Some t) (sym (is.each row (wanted_within wanted row h) h));
  long = is.long;
}
