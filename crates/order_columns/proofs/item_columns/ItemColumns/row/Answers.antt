use Rattle.std.proofs.Common.{◌≡◌, ◌∙◌, Some, ap, map, subst, sym}
use Rattle.std.specs.Prelude.{slice_get}
use Rattle.std.proofs.lemmas.List.{map-append}
use Rattle.cell_types.specs.Value.{value_view}
use Rattle.order_columns.specs.Items.{ItemRows}
use Rattle.order_columns.proofs.ExtendedLemmas.{row_joined, within_rows}
use Rattle.order_columns.proofs.item_columns.ItemColumns.row.Goals as goal

pub row-requires : goal.row-requires
row-requires c = within_rows c.self.inside.computed.now c.self.inside.columns.now.rows c.args.self.now c.args.number c.self.view_is c.requires

pub returns : goal.returns
returns c =
    let inside = c.self.inside in
    let rows = inside.columns.now.rows in
    let within = within_rows inside.computed.now rows c.args.self.now c.args.number c.self.view_is c.requires in
    subst (λ (r : ItemRows). slice_get r.rows c.args.number ≡ Some (map value_view c.append.new.self.items)) c.self.view_is
    (row_joined inside.computed.now rows c.args.number (map value_view c.in_ok-values.values.items) (map value_view c.in_ok-others.others.items) within
    c.in_ok-values.ensures c.in_ok-others.ensures
    ∙ ap (λ l. Some l) (sym (ap (map value_view) c.in_ok-append.ensures.items ∙ map-append value_view c.in_ok-values.values.items c.in_ok-others.others.items)))
