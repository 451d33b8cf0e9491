use Rattle.text_columns.specs.Places.{place_list}
use Rattle.text_columns.specs.Texts.{text_block_cells}
use Rattle.text_columns.proofs.CodeLemmas.{lent-codes}
use Rattle.text_columns.proofs.column.TextColumn.codes.Goals as goal

pub returns : goal.returns
returns c =
    let b = c.self.inside in
    lent-codes b.codes (text_block_cells b.nulls.now (place_list b.ends.now) b.bytes.now) c.args.self.now c.self.view_is c.self.invariant.0.codes
