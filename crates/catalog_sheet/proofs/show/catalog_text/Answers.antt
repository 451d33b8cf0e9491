-- The lines of each table after those before it.
use Rattle.std.proofs.Common.{◌≡◌, ◌∙◌, ap, length, take, vec_items}
use Rattle.std.proofs.lemmas.List.{take_all}
use Rattle.std.proofs.lemmas.Result.{IfOk-weaker}
use Rattle.catalog_sheet.specs.Show.{tables_text}
use Rattle.catalog_sheet.proofs.ShowLemmas.{tables-more}
use Rattle.catalog_sheet.proofs.show.catalog_text.Goals as goal

pub loop-table-preserved : goal.loop-table-preserved
loop-table-preserved c whole =
    let lines = c.push_table.ensures whole in
    tables-more c.args.catalog.now.tables c.tables-table-items.result.now c.loop-table.table-index c.table-item.result _ _ c.tables-table-items.ensures c.loop-table-test.true
    c.table-item.is lines.1 (c.loop-table.invariant lines.0)

pub returns : goal.returns
returns c =
    let tables = c.args.catalog.now.tables in
    let all : take c.loop-table.table-index tables ≡ tables = take_all c.loop-table.table-index tables (rw (← ap length c.tables-table-items.ensures) c.loop-table-test.false) in
    IfOk-weaker c.end.result _ (λ text. text.items ≡ tables_text tables)
    (λ bytes found. ap vec_items found.1 ∙ c.loop-table.invariant found.0 ∙ ap tables_text all) c.end.ensures
