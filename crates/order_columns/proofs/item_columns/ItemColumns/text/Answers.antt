use Rattle.std.proofs.Common.{◌∙◌, ◌≤◌, [], ap, arith, get_or, length, sym}
use Rattle.std.proofs.lemmas.Bool.Decides.{nat_tests}
use Rattle.cell_types.specs.Value.{null}
use Rattle.row_eval.specs.Row.{text_in}
use Rattle.order_columns.specs.Items.{ItemRows}
use Rattle.order_columns.proofs.ExtendedLemmas.{kept_there, table_there, within_rows}
use Rattle.order_columns.proofs.item_columns.ItemColumns.text.Goals as goal

pub table_text-requires : goal.table_text-requires
table_text-requires c = within_rows c.self.inside.computed.now c.self.inside.columns.now.rows c.args.self.now c.args.number c.self.view_is c.requires

pub returns-in-Some : goal.returns-in-Some
returns-in-Some c =
    let inside = c.self.inside in
    let rows = inside.columns.now.rows in
    let within = within_rows inside.computed.now rows c.args.self.now c.args.number c.self.view_is c.requires in
    let look = c.in-Some.ensures.lookup in
    c.kept_text.ensures ∙ ap text_in (sym (kept_there inside.computed.now rows c.args.number c.args.place within c.in-Some.values.now look.3.0 look.1))
    ∙ ap (λ (r : ItemRows). text_in (get_or (get_or r.rows c.args.number []) c.args.place null)) c.self.view_is

pub returns-in-None : goal.returns-in-None
returns-in-None c =
    let inside = c.self.inside in
    let rows = inside.columns.now.rows in
    let within = within_rows inside.computed.now rows c.args.self.now c.args.number c.self.view_is c.requires in
    let look = c.in-None.ensures.lookup in
    let past : length inside.computed.now ≤ c.args.place = grind (arith, nat_tests, look) in
    c.table_text.ensures ∙ ap text_in (sym (table_there inside.computed.now rows c.args.number c.args.place within past))
    ∙ ap (λ (r : ItemRows). text_in (get_or (get_or r.rows c.args.number []) c.args.place null)) c.self.view_is
