use Rattle.std.proofs.Common.{[], ◌∷◌, ap, arith, length, length-append, sym, ◌∙◌}
use Rattle.std.specs.List.{flat_map}
use Rattle.reply_values.specs.Printed.{printed_byte}
use Rattle.reply_values.specs.contracts.text_sizes.text_size.{JSON-type}
use denote.Param.{number}
use Rattle.reply_values.proofs.RunLemmas.{quoted_text}
use Rattle.reply_values.proofs.text_sizes.text_size.Goals as goal

pub returns-then-is_quoted : goal.returns-then-is_quoted
returns-then-is_quoted g c =
    let json = JSON-type (number g.row.JSON) in
    let whole = quoted_text json c.args.text.now (sym c.is_quoted.ensures ∙ c.if-is_quoted.true) in
    omega (arith, ap length whole, length-append (flat_map (printed_byte json) c.args.text.now) (34 ∷ []), c.inside_size.ensures, c.saturating_add.ensures)
