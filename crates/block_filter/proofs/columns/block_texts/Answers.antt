use Rattle.std.proofs.Common.{◌<◌, ap, arith, length}
use Rattle.std.proofs.lemmas.List.{length-map}
use Rattle.cell_types.specs.Column.{column_view}
use Rattle.table_store.specs.Schema.{SchemaOf}
use Rattle.block_filter.proofs.LaneLemmas.{one_of_texts, texts_stand}
use Rattle.block_filter.proofs.columns.block_texts.Goals as goal

pub loop-col-preserved : goal.loop-col-preserved
loop-col-preserved c =
    let block = c.args.block.now in
    let columns = c.schema.result.now.columns in
    let inside : c.loop-col.col < length block.schema.columns =
    omega (arith, c.loop-col-test.true, c.len-width.ensures, length-map columns.items column_view, ap (λ (s : SchemaOf). length s.columns) c.schema.ensures, columns.ok.0) in
    rw c.in_ok-push.ensures.items (one_of_texts block.rows c.loop-col.texts.items c.loop-col.col c.texts.result
    (texts_stand block c.loop-col.col c.texts.result c.values_fit.ensures inside c.texts.ensures) c.loop-col.invariant)
