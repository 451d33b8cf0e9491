use Rattle.std.proofs.Common.{◌≡◌, ◌<◌, ◌++◌, take, not, length, sym, ap, ◌∙◌, append-nil, arith, codes}
use Rattle.std.specs.Prelude.{◌==◌}
use Rattle.std.specs.List.{concat}
use Rattle.reply_text.specs.Pieces.{opening_text, row_pieces}
use Rattle.reply_text.specs.contracts.push_rows.short_body.{JSON-type}
use denote.Param.{number}
use Rattle.reply_text.proofs.PieceLemmas.{body_long, body_whole, end_pieces}
use Rattle.reply_text.proofs.RowLemmas.{is_set}
use Rattle.reply_text.proofs.push_rows.short_body.Goals as goal
use Rattle.reply_text.proofs.push_rows.short_body.Goals.{then-this-ne0+in_ok-extend_from_slice, else-this-ne0}

pub returns-then-branch-len-clause-long : goal.returns-then-branch-len-clause-long
returns-then-branch-len-clause-long g c =
    let json = JSON-type (number g.row.JSON) in
    let rows = c.args.rows.now in
    let n = c.in_ok-push_rows.field-0 in
    let opened = rw c.new-body.ensures.items at c.in_ok-push_opening.ensures in
    let pushed = c.in_ok-push_rows.ensures.bytes ∙ ap (λ l. l ++ concat (take n (row_pieces json rows.names rows.rows))) opened in
    let over : c.args.most < length c.push_rows.new.out.items = grind (arith, c.if-branch-len.true, c.len.ensures, c.in_ok-push_rows.ensures.all, c.push_rows.new.out.ok.0) in
    omega (arith, over, ap length pushed, body_long json rows n)

pub returns-clause-body : goal.returns-clause-body
returns-clause-body g c =
    let json = JSON-type (number g.row.JSON) in
    let rows = c.args.rows.now in
    let n = c.in_ok-push_rows.field-0 in
    let front = opening_text json rows ++ concat (take n (row_pieces json rows.names rows.rows)) in
    let opened = rw c.new-body.ensures.items at c.in_ok-push_opening.ensures in
    let pushed : c.push_rows.new.out.items ≡ front = c.in_ok-push_rows.ensures.bytes ∙ ap (λ l. l ++ concat (take n (row_pieces json rows.names rows.rows))) opened in
    let whole = body_whole json rows n (omega (arith, c.if-branch-len.false, c.len.ensures)) in
    elim c.if-this-ne0.branch [
      | then-this-ne0+in_ok-extend_from_slice w ↦
          ap (λ v. v.items) w.body-is ∙ w.in_ok-extend_from_slice.ensures.items ∙ ap (λ l. l ++ codes "]}") pushed
          ∙ ap (λ l. front ++ l) (sym (ap (λ j. concat (end_pieces j)) (is_set g.row.JSON w.if-this-ne0.true))) ∙ whole
      | else-this-ne0 w ↦
          ap (λ v. v.items) w.body-is ∙ pushed ∙ sym (append-nil front) ∙ ap (λ l. front ++ l) (sym (ap (λ k. concat (end_pieces (not (k == 0)))) w.if-this-ne0.false)) ∙ whole
    ]
