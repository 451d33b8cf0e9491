use Rattle.std.proofs.Common.{refl, ap, ◌∙◌}
use Rattle.std.specs.Prelude.{option_and_then}
use Rattle.row_eval.specs.Row.{text_in}
use Rattle.block_eval.proofs.NumberLemmas.{found-column}
use Rattle.block_eval.proofs.texts.texts_in.Goals as goal

pub returns : goal.returns
returns c =
    let columns = c.args.columns.now in
    let column = c.in-Some.column.now in
    let is = found-column columns c.args.place column column c.in-Some.ensures.lookup.3.0 c.in-Some.ensures.lookup.1 refl in record {
      each = λ row cells h at. ap (option_and_then text_in) (at.each c.args.place column is) ∙ c.in_ok-texts.ensures.each row;
      long = c.in_ok-texts.ensures.long;
    }
