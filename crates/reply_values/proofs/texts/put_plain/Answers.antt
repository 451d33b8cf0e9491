use Rattle.std.proofs.Common.{[], ◌∷◌, ap, append_assoc, arith, length, length-append, sym, ◌∙◌}
use Rattle.reply_values.specs.contracts.texts.put_plain.{JSON-type}
use denote.Param.{number}
use Rattle.reply_values.proofs.RunLemmas.{plain_bare, plain_quoted}
use Rattle.reply_values.proofs.texts.put_plain.Goals as goal

pub put_piece-end-requires : goal.put_piece-end-requires
put_piece-end-requires g c =
    let whole = plain_quoted (JSON-type (number g.row.JSON)) c.args.text.now c.requires.plain (sym c.is_always_quoted.ensures ∙ c.if-is_always_quoted.true) in
    omega (arith, c.requires.room, ap length whole, length-append c.args.text.now (34 ∷ []), c.put_byte-start.ensures.end, c.put_byte-start.ensures.long)

pub put_byte-requires : goal.put_byte-requires
put_byte-requires g c =
    let whole = plain_quoted (JSON-type (number g.row.JSON)) c.args.text.now c.requires.plain (sym c.is_always_quoted.ensures ∙ c.if-is_always_quoted.true) in
    omega (arith, c.requires.room, ap length whole, length-append c.args.text.now (34 ∷ []), c.put_byte-start.ensures.end, c.put_byte-start.ensures.long, c.put_piece-end.ensures.end, c.put_piece-end.ensures.long)

pub returns-then-is_always_quoted : goal.returns-then-is_always_quoted
returns-then-is_always_quoted g c =
    let whole = plain_quoted (JSON-type (number g.row.JSON)) c.args.text.now c.requires.plain (sym c.is_always_quoted.ensures ∙ c.if-is_always_quoted.true) in
    rw whole (record {
      long = omega (arith, c.put_byte-start.ensures.long, c.put_piece-end.ensures.long, c.put_byte.ensures.long);
      bytes = rw (c.put_piece-end.ensures.bytes, c.put_byte-start.ensures.bytes) at c.put_byte.ensures.bytes ∙ simp append_assoc;
      end = omega (arith, length-append c.args.text.now (34 ∷ []), c.put_byte-start.ensures.end, c.put_piece-end.ensures.end, c.put_byte.ensures.end);
    })

pub put_piece-requires : goal.put_piece-requires
put_piece-requires g c =
    let whole = plain_bare (JSON-type (number g.row.JSON)) c.args.text.now c.requires.plain (sym c.is_always_quoted.ensures ∙ c.if-is_always_quoted.false) in
    omega (arith, c.requires.room, ap length whole)

pub returns-else-is_always_quoted : goal.returns-else-is_always_quoted
returns-else-is_always_quoted g c =
    rw (plain_bare (JSON-type (number g.row.JSON)) c.args.text.now c.requires.plain (sym c.is_always_quoted.ensures ∙ c.if-is_always_quoted.false)) c.put_piece.ensures
