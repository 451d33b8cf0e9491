use Rattle.std.proofs.Common.{◌<◌, ◌*◌, length, take, drop, ap, ◌∙◌, arith}
use Rattle.block_summary.specs.declared.block.TheConstants.{BLOCK_ROWS}
use Rattle.column_blocks.specs.TypedColumn.{cells_of_numbers, ColumnCells}
use Rattle.table_store.specs.Block.{block_of, packed_cells}
use Rattle.table_store.specs.Inside.{table_view}
use Rattle.table_store.specs.Table.{TableOf}
use Rattle.table_store.proofs.BlockLemmas.{packed_part}
use Rattle.table_store.proofs.ColumnLemmas.{column_at, kept_length}
use Rattle.file_cells.proofs.PlaceLemmas.{slice_get-from_read}
use Rattle.table_store.proofs.table.Table.packed.Goals as goal

pub index-requires : goal.index-requires
index-requires c =
    omega (arith, c.requires.col, c.self.invariant.columns.count, c.self.inside.columns.ok.0, ap (λ (t : TableOf). length t.schema.columns) c.self.view_is)

pub packed-requires : goal.packed-requires
packed-requires c =
    let table = table_view c.self.inside in
    let items = c.self.inside.columns.items in
    let kept = c.index.result.now in
    let inside : c.args.col < length items = omega (arith, c.requires.col, c.self.invariant.columns.count, ap (λ (t : TableOf). length t.schema.columns) c.self.view_is) in
    let size = kept_length table items c.args.col kept c.self.invariant.columns (slice_get-from_read items c.args.col kept inside c.index.ensures) in
    omega (arith, size, c.requires.number, ap (λ (t : TableOf). length t.rows) c.self.view_is)

pub returns : goal.returns
returns c =
    let table = table_view c.self.inside in
    let items = c.self.inside.columns.items in
    let kept = c.index.result.now in
    let first = c.args.number * BLOCK_ROWS in
    let inside : c.args.col < length items = omega (arith, c.requires.col, c.self.invariant.columns.count, ap (λ (t : TableOf). length t.schema.columns) c.self.view_is) in
    let here = column_at table items c.args.col kept c.self.invariant.columns (slice_get-from_read items c.args.col kept inside c.index.ensures) in
    c.packed.ensures ∙ ap (λ (k : ColumnCells). cells_of_numbers k.kind (take BLOCK_ROWS (drop first k.cells))) here.2
    ∙ packed_part table here.0 first BLOCK_ROWS c.args.col here.1
    ∙ ap (λ (t : TableOf). packed_cells (block_of t c.args.number) c.args.col) c.self.view_is
