use Rattle.std.proofs.Common.{◌+◌, Bool, sym, ap, ap₂, ◌∙◌, subst}
use Rattle.reply_text.specs.Pieces.{cursor_pieces, AreRowsAt}
use Rattle.reply_text.specs.Pieces.{body_pieces}
use Rattle.reply_text.proofs.pieces.Pieces.put.Goals as goal

pub returns-in-Rows-clause-next : goal.returns-in-Rows-clause-next
returns-in-Rows-clause-next c =
    let new = c.put_rows.ensures in
    record {
      same = ap₂ body_pieces (new.format ∙ sym c.if-body.true) new.same ∙ ap cursor_pieces (sym c.in-Rows.is);
      next = subst (λ (json : Bool). AreRowsAt json c.put_rows.new.body (c.args.number + 1)) (sym new.format) new.next;
    }

pub returns-in-Rows-2-clause-next : goal.returns-in-Rows-2-clause-next
returns-in-Rows-2-clause-next c =
    let new = c.put_rows-in-Rows-2.ensures in
    record {
      same = ap₂ body_pieces (new.format ∙ sym c.if-body.false) new.same ∙ ap cursor_pieces (sym c.in-Rows.is);
      next = subst (λ (json : Bool). AreRowsAt json c.put_rows-in-Rows-2.new.body (c.args.number + 1)) (sym new.format) new.next;
    }
