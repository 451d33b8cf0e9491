use Rattle.std.proofs.Common.{◌≡◌, List, [], get_or, length, ap, ◌∙◌, arith}
use Rattle.std.proofs.lemmas.List.Elements.{All-from_recursion}
use Rattle.cell_types.specs.Value.{CellValue}
use Rattle.reply_text.specs.contracts.push_rows.push_row.{JSON-type}
use denote.Param.{number}
use Rattle.reply_text.proofs.RowLemmas.{row_has_room}
use Rattle.reply_text.proofs.push_rows.push_row.Goals as goal

pub put_comma-start-requires : goal.put_comma-start-requires
put_comma-start-requires g c =
    let rows = c.args.rows.now in
    let wide = All-from_recursion (λ (vs : List CellValue). length vs ≡ c.width-width.result) rows.rows c.width-width.ensures.rows c.args.row [] c.requires.row ∙ c.width-width.ensures.names in
    let fits = row_has_room (JSON-type (number g.row.JSON)) rows.names c.args.row _ _ _ c.args.frame _ c.requires.frame wide (ap (λ (rs : List (List CellValue)). get_or rs c.args.row []) c.columns.ensures.rows) c.row_room-room.ensures in
    omega (arith, fits, c.saturating_add.ensures, c.in_ok-resize.ensures.len, c.as_mut_slice.ensures.len, c.resize.new.self.small, c.resize.new.self.ok.0, c.len-at.ensures)

pub put_row-end-requires-clause-room : goal.put_row-end-requires-clause-room
put_row-end-requires-clause-room g c =
    let rows = c.args.rows.now in
    let wide = All-from_recursion (λ (vs : List CellValue). length vs ≡ c.width-width.result) rows.rows c.width-width.ensures.rows c.args.row [] c.requires.row ∙ c.width-width.ensures.names in
    let fits = row_has_room (JSON-type (number g.row.JSON)) rows.names c.args.row _ _ _ c.args.frame _ c.requires.frame wide (ap (λ (rs : List (List CellValue)). get_or rs c.args.row []) c.columns.ensures.rows) c.row_room-room.ensures in
    omega (arith, fits, c.saturating_add.ensures, c.in_ok-resize.ensures.len, c.as_mut_slice.ensures.len, c.as_mut_slice-2.ensures.len, c.resize.new.self.small, c.resize.new.self.ok.0, c.len-at.ensures, c.put_comma-start.ensures.end, c.put_comma-start.ensures.long)
