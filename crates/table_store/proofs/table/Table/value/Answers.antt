use Rattle.std.proofs.Common.{◌<◌, Some, length, slice_get, option_and_then, sym, ap, ◌∙◌, arith}
use Rattle.csvw_meta.specs.Schema.{schema_view}
use Rattle.table_store.specs.Inside.{table_view}
use Rattle.table_store.specs.Table.{TableOf}
use Rattle.table_store.proofs.ColumnLemmas.{cell_of_column, table-wide}
use Rattle.file_cells.proofs.PlaceLemmas.{slice_get-from_read}
use Rattle.table_store.proofs.table.Table.value.Goals as goal

pub index-requires : goal.index-requires
index-requires c =
    omega (arith, c.requires.col, c.self.invariant.columns.count, c.self.inside.columns.ok.0, ap (λ (t : TableOf). length t.schema.columns) c.self.view_is)

pub returns-clause-value : goal.returns-clause-value
returns-clause-value c =
    let table = c.self.inside in
    let items = table.columns.items in
    let kept = c.index.result.now in
    let inside : c.args.col < length items = omega (arith, c.requires.col, c.self.invariant.columns.count, ap (λ (t : TableOf). length t.schema.columns) c.self.view_is) in
    let wide = table-wide (schema_view table.schema) table.count items c.self.invariant.columns.count in
    ap (λ (t : TableOf). option_and_then (λ values. slice_get values c.args.col) (slice_get t.rows c.args.row)) (sym c.self.view_is)
    ∙ cell_of_column (table_view table) items c.args.row c.args.col kept c.self.invariant.columns wide
    (omega (arith, c.requires.row, ap (λ (t : TableOf). length t.rows) c.self.view_is)) (slice_get-from_read items c.args.col kept inside c.index.ensures)
    ∙ ap (λ v. Some v) (sym c.value.ensures)
