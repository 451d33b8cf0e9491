use Rattle.std.proofs.Common.{◌≡◌, ◌≤◌, ◌<◌, List, [], Some, get_or, length, refl, sym, ap, ◌∙◌, arith}
use Rattle.std.proofs.lemmas.List.{map_push, take_all, take_more}
use Rattle.std.proofs.lemmas.Option.{slice_get-get_or}
use Rattle.cell_types.specs.Value.{CellValue, null, value_view}
use Rattle.value_rows.proofs.RowLaws.{cell-is}
use Rattle.row_columns.proofs.columns.Columns.row.Goals as goal

pub loop-col-preserved : goal.loop-col-preserved
loop-col-preserved c =
    let rows = c.args.self.now.rows in
    let none : List CellValue = [] in
    let row : List CellValue = get_or rows c.args.row none in
    let col = c.loop-col.col in
    let wide = c.rows_are_wide.ensures c.args.row none c.requires in
    let within : col < length row = omega (arith, c.loop-col-test.true, c.width-width.ensures, wide) in
    let is : value_view c.value.result ≡ get_or row col null = cell-is rows c.args.row col (value_view c.value.result) c.value.ensures in
    rw (c.in_ok-push.ensures.items, map_push value_view c.loop-col.values.items c.value.result, c.loop-col.invariant, is, take_more row col null within) refl

pub returns : goal.returns
returns c =
    let rows = c.args.self.now.rows in
    let none : List CellValue = [] in
    let row : List CellValue = get_or rows c.args.row none in
    let wide = c.rows_are_wide.ensures c.args.row none c.requires in
    let end : length row ≤ c.loop-col.col = omega (arith, c.loop-col-test.false, c.width-width.ensures, wide) in
    slice_get-get_or rows c.args.row none c.requires ∙ ap (λ (r : List CellValue). Some r) (sym (take_all c.loop-col.col row end) ∙ sym c.loop-col.invariant)
