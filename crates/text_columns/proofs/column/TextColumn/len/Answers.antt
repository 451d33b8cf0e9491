use Rattle.std.proofs.Common.{length, sym, ap, ◌∙◌}
use Rattle.text_columns.specs.Places.{place_list}
use Rattle.text_columns.proofs.TextLemmas.{length-text_cells}
use Rattle.text_columns.proofs.column.TextColumn.len.Goals as goal

pub returns : goal.returns
returns c =
    let b = c.self.inside in
    c.count_of.ensures ∙ sym (length-text_cells b.nulls.now (place_list b.ends.now) b.bytes.now) ∙ ap length c.self.view_is
