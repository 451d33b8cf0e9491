use Rattle.std.proofs.Common.{◌-◌, [], get_or, length, length-append, sym, ap, ◌∙◌, subst, arith}
use Rattle.std.specs.Prelude.{if◌then◌else◌}
use Rattle.result_rows.specs.Rows.{OrderedOf}
use Rattle.reply_text.specs.Pieces.{AreHeads}
use Rattle.reply_text.specs.Json.{comma_before}
use Rattle.reply_text.specs.Pieces.{opening_text, printed_row}
use Rattle.reply_values.specs.Size.{IsWrittenAt}
use Rattle.reply_text.specs.contracts.pieces.put_rows.{JSON-type}
use denote.Param.{number}
use Rattle.reply_text.proofs.PieceLemmas.{is_row, last_number, row_number, row_taken}
use Rattle.reply_text.proofs.RowLemmas.{put_then}
use Rattle.reply_text.proofs.pieces.put_rows.Goals as goal

pub put_piece-requires-then-row-len : goal.put_piece-requires-then-row-len
put_piece-requires-then-row-len g c =
    let last = last_number (JSON-type (number g.row.JSON)) c.args.body.now.rows.rows c.args.number (omega (arith, c.if-number-eq0.false)) (omega (arith, c.if-row-len.true, c.len.ensures)) c.requires.number in
    omega (arith, c.requires.room, ap length last)

pub returns-then-row-len-clause-put : goal.returns-then-row-len-clause-put
returns-then-row-len-clause-put g c =
    let last = last_number (JSON-type (number g.row.JSON)) c.args.body.now.rows.rows c.args.number (omega (arith, c.if-number-eq0.false)) (omega (arith, c.if-row-len.true, c.len.ensures)) c.requires.number in
    subst (IsWrittenAt c.args.out.now c.put_piece-then-row-len.new.out c.args.at c.put_piece-then-row-len.result) (sym last) c.put_piece-then-row-len.ensures

pub next-place-requires : goal.next-place-requires
next-place-requires g c =
    omega (arith, c.requires.next.taken, is_row (JSON-type (number g.row.JSON)) c.args.body.now.rows.rows c.args.number _ c.if-number-eq0.false c.requires.number c.if-row-len.false c.len.ensures)

pub put_comma-start-requires : goal.put_comma-start-requires
put_comma-start-requires g c =
    let json = JSON-type (number g.row.JSON) in
    let rows = c.args.body.now.rows.rows in
    let inside = is_row json rows c.args.number _ c.if-number-eq0.false c.requires.number c.if-row-len.false c.len.ensures in
    let text = row_number json rows c.args.number (omega (arith, c.if-number-eq0.false)) inside in
    let comma = comma_before (if json then c.args.number - 1 else 0) in
    omega (arith, c.requires.room, ap length text, length-append comma (printed_row json rows.names (get_or rows.rows (c.args.number - 1) [])))

pub put_row-requires-clause-room : goal.put_row-requires-clause-room
put_row-requires-clause-room g c =
    let json = JSON-type (number g.row.JSON) in
    let rows = c.args.body.now.rows in
    let table = c.table.result.now in
    let inside = is_row json rows.rows c.args.number _ c.if-number-eq0.false c.requires.number c.if-row-len.false c.len.ensures in
    let text = row_taken json rows c.next-place.new.self table c.args.number c.next-place.result (omega (arith, c.requires.next.taken, inside)) (omega (arith, c.if-number-eq0.false)) inside
    c.next-place.ensures.row c.next-place.ensures.rest c.table.ensures.rows c.table.ensures.moved.names in
    let comma = comma_before (if json then c.args.number - 1 else 0) in
    omega (arith, c.requires.room, ap length text, length-append comma (printed_row json table.names (get_or table.rows c.next-place.result [])), c.put_comma-start.ensures.end, c.put_comma-start.ensures.long)

pub returns-clause-put : goal.returns-clause-put
returns-clause-put g c =
    let json = JSON-type (number g.row.JSON) in
    let rows = c.args.body.now.rows in
    let inside = is_row json rows.rows c.args.number _ c.if-number-eq0.false c.requires.number c.if-row-len.false c.len.ensures in
    let text = row_taken json rows c.next-place.new.self c.table.result.now c.args.number c.next-place.result (omega (arith, c.requires.next.taken, inside)) (omega (arith, c.if-number-eq0.false)) inside
    c.next-place.ensures.row c.next-place.ensures.rest c.table.ensures.rows c.table.ensures.moved.names in
    subst (IsWrittenAt c.args.out.now c.put_row.new.out c.args.at c.put_row.result) (sym text) (put_then _ _ _ _ _ _ _ _ c.put_comma-start.ensures c.put_row.ensures)

pub returns-clause-next : goal.returns-clause-next
returns-clause-next g c =
    let json = JSON-type (number g.row.JSON) in
    let body = c.args.body.now in
    let rest = c.next-place.ensures.rest in
    let inside = is_row json body.rows.rows c.args.number _ c.if-number-eq0.false c.requires.number c.if-row-len.false c.len.ensures in
    record {
      heads = subst (λ (o : OrderedOf). AreHeads json o.rows.names body.heads.items) (sym rest) c.requires.next.heads;
      opening = c.requires.next.opening ∙ ap (λ (o : OrderedOf). opening_text json o.rows) (sym rest);
      taken = omega (arith, c.if-number-eq0.false, c.requires.next.taken, inside, ap (λ (o : OrderedOf). o.taken) rest, ap (λ (o : OrderedOf). length o.rows.rows) rest);
    }
