use Rattle.std.proofs.Common.{◌≡◌, length, ap, sym, subst, ◌∙◌}
use Rattle.std.specs.List.{AllByRecursion}
use Rattle.csvw_meta.specs.Schema.{schema_view}
use Rattle.table_store.specs.Table.{TableOf}
use Rattle.table_store.proofs.ColumnLemmas.{table-wide}
use Rattle.table_store.proofs.table.Table.width.Goals as goal

pub returns-clause-columns : goal.returns-clause-columns
returns-clause-columns c =
    c.len.ensures ∙ c.self.inside.columns.ok.0 ∙ c.self.invariant.columns.count ∙ ap (λ (t : TableOf). length t.schema.columns) c.self.view_is

pub returns-clause-rows : goal.returns-clause-rows
returns-clause-rows c =
    let table = c.self.inside in
    let schema = schema_view table.schema in
    let same : length schema.columns ≡ c.len.result = sym (c.len.ensures ∙ c.self.inside.columns.ok.0 ∙ c.self.invariant.columns.count) in
    subst (λ (t : TableOf). AllByRecursion (λ values. length values ≡ c.len.result) t.rows) c.self.view_is
    (rw same at (table-wide schema table.count table.columns.items c.self.invariant.columns.count))
