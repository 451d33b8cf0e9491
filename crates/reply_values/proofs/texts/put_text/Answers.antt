use Rattle.std.proofs.Common.{[], ◌∷◌, ap, append_assoc, arith, length, length-append, sym, ◌∙◌}
use Rattle.std.specs.List.{flat_map}
use Rattle.reply_values.specs.Printed.{printed_byte}
use Rattle.reply_values.specs.contracts.texts.put_text.{JSON-type}
use denote.Param.{number}
use Rattle.reply_values.proofs.RunLemmas.{other_quoted}
use Rattle.reply_values.proofs.texts.put_text.Goals as goal

pub put_plain-requires-clause-plain : goal.put_plain-requires-clause-plain
put_plain-requires-clause-plain g c = sym c.is_plain.ensures ∙ c.if-is_plain.true

pub put_runs-end-requires : goal.put_runs-end-requires
put_runs-end-requires g c =
    let json = JSON-type (number g.row.JSON) in
    let whole = other_quoted json c.args.text.now (sym c.is_plain.ensures ∙ c.if-is_plain.false) in
    omega (arith, c.requires, ap length whole, length-append (flat_map (printed_byte json) c.args.text.now) (34 ∷ []), c.put_byte-start.ensures.end, c.put_byte-start.ensures.long)

pub put_byte-requires : goal.put_byte-requires
put_byte-requires g c =
    let json = JSON-type (number g.row.JSON) in
    let whole = other_quoted json c.args.text.now (sym c.is_plain.ensures ∙ c.if-is_plain.false) in
    omega (
      arith,
      c.requires,
      ap length whole,
      length-append (flat_map (printed_byte json) c.args.text.now) (34 ∷ []),
      c.put_byte-start.ensures.end,
      c.put_byte-start.ensures.long,
      c.put_runs-end.ensures.end,
      c.put_runs-end.ensures.long,
    )

pub returns : goal.returns
returns g c =
    let json = JSON-type (number g.row.JSON) in
    let inside = flat_map (printed_byte json) c.args.text.now in
    let whole = other_quoted json c.args.text.now (sym c.is_plain.ensures ∙ c.if-is_plain.false) in
    rw whole (record {
      long = omega (arith, c.put_byte-start.ensures.long, c.put_runs-end.ensures.long, c.put_byte.ensures.long);
      bytes = rw (c.put_runs-end.ensures.bytes, c.put_byte-start.ensures.bytes) at c.put_byte.ensures.bytes ∙ simp append_assoc;
      end = omega (arith, length-append inside (34 ∷ []), c.put_byte-start.ensures.end, c.put_runs-end.ensures.end, c.put_byte.ensures.end);
    })
