use Rattle.std.proofs.Common.{sym, ap, ◌∙◌, length}
use Rattle.csvw_meta.specs.Schema.{schema_view}
use Rattle.table_store.specs.Table.{TableOf}
use Rattle.table_store.proofs.ColumnLemmas.{length-table}
use Rattle.table_store.proofs.table.Table.rows.Goals as goal

pub returns : goal.returns
returns c =
    let table = c.self.inside in
    sym (length-table (schema_view table.schema) table.count table.columns.items) ∙ ap (λ (t : TableOf). length t.rows) c.self.view_is
