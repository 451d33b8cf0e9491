use Rattle.std.proofs.Common.{◌<◌, ◌++◌, [], get_or, length, take, sym, ap, ◌∙◌, subst, append_assoc, arith, length-append}
use Rattle.std.specs.List.{join_with_byte}
use Rattle.std.proofs.lemmas.List.{get_or_default}
use Rattle.cell_types.specs.Value.{null}
use Rattle.reply_values.specs.Printed.{printed_value}
use Rattle.reply_values.specs.Size.{IsWrittenAt}
use Rattle.reply_text.specs.contracts.put_rows.put_row.{JSON-type}
use denote.Param.{number}
use Rattle.reply_text.proofs.RowLemmas.{after_values, before_values, csv_head, head_is, is_set, lent_value, lent_width, member_fits, member_more, members, put_then, row_ends}
use Rattle.reply_text.proofs.put_rows.put_row.Goals as goal

pub put_head-end-requires-clause-comma : goal.put_head-end-requires-clause-comma
put_head-end-requires-clause-comma g c =
    let json = JSON-type (number g.row.JSON) in
    let names = c.args.rows.now.names in
    let inside : c.loop-col.col < length names = omega (arith, c.loop-col-test.true, c.width-col-end.ensures.names) in
    csv_head json names c.loop-col.col _ (head_is json names c.args.heads.now c.loop-col.col _ _ c.requires.heads inside c.index-heads-col.is c.as_slice.ensures.value)

pub put_head-end-requires-clause-room : goal.put_head-end-requires-clause-room
put_head-end-requires-clause-room g c =
    let json = JSON-type (number g.row.JSON) in
    let rows = c.args.rows.now in
    let values = get_or rows.rows c.args.row [] in
    let wide = lent_width rows.rows c.args.row _ _ c.row_ref-values.ensures.row c.row_ref-values.ensures.width in
    let inside : c.loop-col.col < length rows.names = omega (arith, c.loop-col-test.true, c.width-col-end.ensures.names) in
    let head = head_is json rows.names c.args.heads.now c.loop-col.col _ _ c.requires.heads inside c.index-heads-col.is c.as_slice.ensures.value in
    let fits = member_fits json rows.names values c.loop-col.col (get_or values c.loop-col.col null) wide inside (get_or_default values c.loop-col.col _ null (omega (arith, wide, inside))) in
    omega (arith, c.requires.room, c.loop-col.invariant.long, c.loop-col.invariant.end, ap length head, fits)

pub put_cell-end-requires-clause-room : goal.put_cell-end-requires-clause-room
put_cell-end-requires-clause-room g c =
    let json = JSON-type (number g.row.JSON) in
    let rows = c.args.rows.now in
    let values = get_or rows.rows c.args.row [] in
    let wide = lent_width rows.rows c.args.row _ _ c.row_ref-values.ensures.row c.row_ref-values.ensures.width in
    let inside : c.loop-col.col < length rows.names = omega (arith, c.loop-col-test.true, c.width-col-end.ensures.names) in
    let value = lent_value rows.rows c.args.row c.loop-col.col _ c.row_ref-values.ensures.row (omega (arith, c.loop-col-test.true, c.width-col-end.ensures.names, c.row_ref-values.ensures.width)) in
    let head = head_is json rows.names c.args.heads.now c.loop-col.col _ _ c.requires.heads inside c.index-heads-col.is c.as_slice.ensures.value in
    omega (arith, c.requires.room, c.loop-col.invariant.long, c.loop-col.invariant.end, c.put_head-end.ensures.long, c.put_head-end.ensures.end, ap length head, member_fits json rows.names values c.loop-col.col _ wide inside value)

pub loop-col-preserved : goal.loop-col-preserved
loop-col-preserved g c =
    let json = JSON-type (number g.row.JSON) in
    let rows = c.args.rows.now in
    let values = get_or rows.rows c.args.row [] in
    let wide = lent_width rows.rows c.args.row _ _ c.row_ref-values.ensures.row c.row_ref-values.ensures.width in
    let inside : c.loop-col.col < length rows.names = omega (arith, c.loop-col-test.true, c.width-col-end.ensures.names) in
    let value = lent_value rows.rows c.args.row c.loop-col.col _ c.row_ref-values.ensures.row (omega (arith, c.loop-col-test.true, c.width-col-end.ensures.names, c.row_ref-values.ensures.width)) in
    let head = head_is json rows.names c.args.heads.now c.loop-col.col _ _ c.requires.heads inside c.index-heads-col.is c.as_slice.ensures.value in
    let front = before_values json ++ join_with_byte 44 (take c.loop-col.col (members json rows.names values)) in
    let text = printed_value json (get_or c.row_ref-values.result c.loop-col.col null) in
    let more = ap (λ h. (front ++ h) ++ text) head ∙ append_assoc front _ text ∙ append_assoc (before_values json) _ _
    ∙ ap (λ l. before_values json ++ l) (sym (member_more json rows.names values c.loop-col.col _ wide inside value)) in
    subst (IsWrittenAt c.args.out.now c.put_cell-end.new.out c.args.at c.put_cell-end.result) more
    (put_then _ _ _ _ _ _ (front ++ c.as_slice.result.now) text (put_then _ _ _ _ _ _ front _ c.loop-col.invariant c.put_head-end.ensures) c.put_cell-end.ensures)

pub put_byte-requires : goal.put_byte-requires
put_byte-requires g c =
    let json = JSON-type (number g.row.JSON) in
    let rows = c.args.rows.now in
    let values = get_or rows.rows c.args.row [] in
    let wide = lent_width rows.rows c.args.row _ _ c.row_ref-values.ensures.row c.row_ref-values.ensures.width in
    let front = before_values json ++ join_with_byte 44 (take c.loop-col.col (members json rows.names values)) in
    let whole = row_ends json rows.names values c.loop-col.col wide (omega (arith, c.loop-col-test.false, c.width-col-end.ensures.names)) in
    omega (arith, c.requires.room, c.loop-col.invariant.long, c.loop-col.invariant.end, ap length whole, length-append front (after_values json), ap (λ j. length (after_values j)) (is_set g.row.JSON c.if-this-ne0-2.true))

pub returns-then-this-ne0-2 : goal.returns-then-this-ne0-2
returns-then-this-ne0-2 g c =
    let json = JSON-type (number g.row.JSON) in
    let rows = c.args.rows.now in
    let values = get_or rows.rows c.args.row [] in
    let wide = lent_width rows.rows c.args.row _ _ c.row_ref-values.ensures.row c.row_ref-values.ensures.width in
    let front = before_values json ++ join_with_byte 44 (take c.loop-col.col (members json rows.names values)) in
    let whole = row_ends json rows.names values c.loop-col.col wide (omega (arith, c.loop-col-test.false, c.width-col-end.ensures.names)) in
    subst (IsWrittenAt c.args.out.now c.put_byte.new.out c.args.at c.put_byte.result) (sym (whole ∙ ap (λ a. front ++ a) (ap after_values (is_set g.row.JSON c.if-this-ne0-2.true))))
    (put_then _ _ _ _ _ _ front _ c.loop-col.invariant c.put_byte.ensures)
