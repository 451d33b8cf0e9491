use Rattle.std.proofs.Common.{◌≤◌, ap, arith, length, map, ◌∙◌}
use Rattle.std.proofs.lemmas.List.{length-map, map_push}
use Rattle.cell_types.specs.Column.{column_view}
use Rattle.cell_types.specs.Value.{value_view}
use Rattle.table_store.specs.Schema.{SchemaOf}
use Rattle.block_filter.proofs.RowLemmas.{row_read, value_read}
use Rattle.block_filter.proofs.rows.read_row.Goals as goal

pub loop-col-preserved : goal.loop-col-preserved
loop-col-preserved c =
    ap (map value_view) c.in_ok-push.ensures.items ∙ map_push value_view c.loop-col.values.items c.in_ok-value.field-0
    ∙ value_read c.loop-col.col (value_view c.in_ok-value.field-0) c.args.block.now.rows c.args.row (map value_view c.loop-col.values.items) c.loop-col.invariant c.in_ok-value.ensures.value

pub returns : goal.returns
returns c =
    let columns = c.args.block.now.schema.columns in
    let wide : length columns ≤ c.loop-col.col =
    omega (arith, c.len-col-end.ensures, length-map c.schema.result.now.columns.items column_view, ap (λ (s : SchemaOf). length s.columns) c.schema.ensures, c.schema.result.now.columns.ok.0, c.loop-col-test.false) in
    row_read columns c.args.block.now.rows c.args.row c.loop-col.col (map value_view c.loop-col.values.items) c.values_fit.ensures.each c.requires wide c.loop-col.invariant
