use Rattle.std.proofs.Common.{sym, subst}
use Rattle.csvw_meta.specs.Schema.{schema_view}
use Rattle.key_index.specs.Keys.{AreKeysOf}
use Rattle.column_blocks.specs.TypedColumn.{AreTyped}
use Rattle.table_store.specs.Fits.{HasTableRows}
use Rattle.table_store.specs.Inside.{table_of}
use Rattle.table_store.specs.Table.{TableOf, keys_of}
use Rattle.table_store.proofs.ColumnLemmas.{length-table}
use Rattle.table_store.proofs.FitLemmas.{table-fits}
use Rattle.table_store.proofs.LoadingLemmas.{has_table, is_table_at, parts_table}
use Rattle.table_store.proofs.SummaryLemmas.{are_summaries}
use Rattle.table_store.proofs.table.Table.of_rows.Goals as goal

pub invariant_of-result : goal.invariant_of-result
invariant_of-result c =
    let schema = schema_view c.args.schema in
    let parts = c.args.read.rows in
    let bytes = c.requires.read.2.0 in
    let file = c.requires.read.2.2 in
    let raw = file.raw in
    let made = file.reads.summarizes in
    let read = made.parts in
    let at = is_table_at schema.columns bytes raw file.is file.header_matches made.right in
    let table = table_of schema parts.rows parts.columns.items in
    let same = sym (parts_table schema bytes raw parts at read) in
    let columns = subst (λ (t : TableOf). AreTyped schema.columns t.rows parts.columns.items) same read.columns in
    record {
      columns = columns;
      places = c.requires.key;
      keys = subst (λ (t : TableOf). AreKeysOf parts.keys (keys_of t)) same read.keys;
      fit = subst HasTableRows same (table-fits c.values_fit_columns.ensures schema bytes raw file.short c.requires.defaults at);
      summaries = are_summaries table parts.columns.items parts.rows c.args.read.summaries.items columns (length-table schema parts.rows parts.columns.items) made.first
          file.reads.all;
    }

pub returns : goal.returns
returns c = λ limit file reads.
    let schema = schema_view c.args.schema in
    let raw = reads.2.raw in
    let made = reads.2.reads.summarizes in
    let at = is_table_at schema.columns reads.0 raw reads.2.is reads.2.header_matches made.right in
    has_table limit file schema raw c.args.read.rows (reads.0, reads.1, at) made.parts
