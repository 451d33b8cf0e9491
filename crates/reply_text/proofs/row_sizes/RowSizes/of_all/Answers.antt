use Rattle.std.proofs.Common.{[], length, refl, sym, ap, ◌∙◌, append-nil, arith, subst}
use Rattle.std.proofs.lemmas.List.Sorted.{length_permutation}
use Rattle.result_rows.specs.Rows.{AreReordered, BeginWith, RowsOf}
use Rattle.reply_text.specs.RowSizes.{IsRowFrame}
use Rattle.reply_text.specs.contracts.row_sizes.RowSizes.of_all.{JSON-type}
use denote.Param.{number}
use Rattle.reply_text.proofs.CountLemmas.{none_are}
use Rattle.reply_text.proofs.row_sizes.RowSizes.of_all.Goals as goal

pub returns-clause-have : goal.returns-clause-have
returns-clause-have g c =
    let json = JSON-type (number g.row.JSON) in
    let table = c.table-table.result.now in
    let first = c.columns.result.now.rows in
    let frame = subst (λ width. IsRowFrame json table.names width c.row_frame-frame.result) (c.width.ensures.names ∙ sym c.columns.ensures.width) (c.row_frame-frame.ensures table.names (λ is. sym c.names.ensures)) in
    let whole : BeginWith table table.names first = record { names_are = refl; rest = []; rows_are = sym c.columns.ensures.rows ∙ sym (append-nil first) } in
    let has = c.count.ensures.sizes table table.names frame whole (none_are json c.none-sizes.result table (c.none-sizes.ensures.json table) (c.none-sizes.ensures.csv table)) in
    (_, table, subst (λ (t : RowsOf). AreReordered t c.args.rows.now.rows) (sym c.table-table.ensures.rows) c.table-table.ensures.moved, refl, has)

pub returns-clause-len : goal.returns-clause-len
returns-clause-len g c =
    let rows = c.args.rows.now in
    let none = (c.none-sizes.ensures.json rows.rows).0 in
    let moved = c.table-table.ensures.moved in
    omega (arith, none, c.count.ensures.len, ap length c.columns.ensures.rows, ap (λ (r : RowsOf). length r.rows) c.table-table.ensures.rows, length_permutation rows.stored.rows rows.rows.rows moved.moved)
