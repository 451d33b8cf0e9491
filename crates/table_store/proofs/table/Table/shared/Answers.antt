use Rattle.std.proofs.Common.{◌≡◌, ◌<◌, length, ap, subst, arith}
use Rattle.std.specs.Prelude.{IfOk, Some}
use Rattle.table_store.specs.Block.{block_of, typed_cells_of}
use Rattle.table_store.specs.Inside.{table_view}
use Rattle.table_store.specs.Table.{TableOf}
use Rattle.table_store.proofs.BlockLemmas.{shared_part}
use Rattle.table_store.proofs.ColumnLemmas.{column_at, kept_length}
use Rattle.file_cells.proofs.PlaceLemmas.{slice_get-from_read}
use Rattle.table_store.proofs.table.Table.shared.Goals as goal

pub index-requires : goal.index-requires
index-requires c =
    omega (arith, c.requires.col, c.self.invariant.columns.count, c.self.inside.columns.ok.0, ap (λ (t : TableOf). length t.schema.columns) c.self.view_is)

pub shared-requires : goal.shared-requires
shared-requires c =
    let table = table_view c.self.inside in
    let items = c.self.inside.columns.items in
    let kept = c.index.result.now in
    let inside : c.args.col < length items = omega (arith, c.requires.col, c.self.invariant.columns.count, ap (λ (t : TableOf). length t.schema.columns) c.self.view_is) in
    let size = kept_length table items c.args.col kept c.self.invariant.columns (slice_get-from_read items c.args.col kept inside c.index.ensures) in
    omega (arith, size, c.requires.number, ap (λ (t : TableOf). length t.rows) c.self.view_is)

pub returns : goal.returns
returns c =
    let table = table_view c.self.inside in
    let items = c.self.inside.columns.items in
    let kept = c.index.result.now in
    let inside : c.args.col < length items = omega (arith, c.requires.col, c.self.invariant.columns.count, ap (λ (t : TableOf). length t.schema.columns) c.self.view_is) in
    let here = column_at table items c.args.col kept c.self.invariant.columns (slice_get-from_read items c.args.col kept inside c.index.ensures) in
    subst (λ (t : TableOf). IfOk c.shared.result (λ shared. Some shared ≡ typed_cells_of (block_of t c.args.number) c.args.col)) c.self.view_is
    (shared_part table here.0 kept c.args.number c.args.col c.shared.result here.1 here.2 c.shared.ensures)
