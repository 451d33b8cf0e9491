use Rattle.std.proofs.Common.{◌≡◌, ◌+◌, length, ap, ◌∙◌, arith}
use Rattle.std.specs.List.{sum_by}
use Rattle.table_store.specs.Inside.{table_view}
use Rattle.table_store.specs.Remains.{column_parts, table_parts}
use Rattle.table_store.proofs.RemainsLemmas.{columns_parts}
use Rattle.table_store.proofs.table.Table.into_parts.Goals as goal

pub returns : goal.returns
returns c =
    let inside = c.self.inside in
    let table = table_view inside in
    let columns = columns_parts table.schema.columns table.rows inside.columns.items c.self.invariant.columns in
    let parts : sum_by column_parts inside.columns.items + length inside.summaries.items + 1 ≡ table_parts table =
    omega (arith, columns, c.self.invariant.summaries.count) in
    parts ∙ ap table_parts c.self.view_is
