use Rattle.std.proofs.Common.{◌∙◌, ap, length, sym}
use Rattle.order_columns.specs.Items.{ItemRows}
use Rattle.order_columns.proofs.ExtendedLemmas.{extended_long}
use Rattle.order_columns.proofs.item_columns.ItemColumns.len.Goals as goal

pub returns : goal.returns
returns c =
    let inside = c.self.inside in
    c.len.ensures ∙ sym (extended_long inside.computed.now 0 inside.columns.now.rows) ∙ ap (λ (r : ItemRows). length r.rows) c.self.view_is
