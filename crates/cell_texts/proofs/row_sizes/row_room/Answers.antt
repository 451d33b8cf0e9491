use Rattle.std.proofs.Common.{◌+◌, ◌≤◌, [], get_or, length, subst, arith, take_all}
use Rattle.std.specs.List.{flat_map}
use Rattle.row_columns.specs.Cell.{cell_view}
use Rattle.reply_values.specs.Printed.{printed_value}
use Rattle.reply_values.specs.Size.{told}
use Rattle.cell_texts.proofs.SizeLemmas.{room_more, value_lent}
use Rattle.cell_texts.specs.contracts.row_sizes.row_room.{JSON-type}
use denote.Param.{number}
use Rattle.cell_texts.proofs.row_sizes.row_room.Goals as goal

pub loop-col-preserved : goal.loop-col-preserved
loop-col-preserved g c =
    let rows = c.args.columns.now.rows in
    let value = cell_view c.cell.result in
    let wide = c.rows_are_wide.ensures c.args.row [] c.requires in
    room_more (printed_value (JSON-type (number g.row.JSON))) (get_or rows c.args.row []) value c.args.start c.loop-col.col c.loop-col.room _ _
    (omega (arith, c.loop-col-test.true, c.width-col-end.ensures, wide))
    (value_lent rows c.args.row c.loop-col.col c.row_ref-values.result value c.requires c.row_ref-values.ensures.row c.cell.ensures)
    c.loop-col.invariant c.cell_room.ensures c.saturating_add-room.ensures

pub returns : goal.returns
returns g c =
    let values = get_or c.args.columns.now.rows c.args.row [] in
    let wide = c.rows_are_wide.ensures c.args.row [] c.requires in
    subst (λ vs. told (c.args.start + length (flat_map (printed_value (JSON-type (number g.row.JSON))) vs)) ≤ c.loop-col.room)
    (take_all c.loop-col.col values (omega (arith, c.loop-col-test.false, c.width-col-end.ensures, wide))) c.loop-col.invariant
