use Rattle.std.proofs.Common.{◌∙◌, length, map, string_bytes, sym, ap, arith, rules, tests}
use Rattle.std.proofs.lemmas.List.{length-map}
use Rattle.reply_text.specs.contracts.row_sizes.row_frame.{JSON-type}
use denote.Param.{number}
use Rattle.reply_text.proofs.RowLemmas.{frame_is, labels_same}
use Rattle.reply_text.proofs.row_sizes.row_frame.Goals as goal

pub returns : goal.returns
returns g c = λ under same.
    let json = JSON-type (number g.row.JSON) in
    let names = c.args.names.now in
    frame_is json under c.args.width _ c.from.result (λ is. c.requires is ∙ sym (ap length (same is) ∙ length-map names string_bytes))
    (omega (arith, c.labels_size.ensures, c.saturating_sub.ensures, c.saturating_add.ensures, c.saturating_add-2.ensures, labels_same json under (map string_bytes names) same))
    (first_of (grind (arith, tests, c.from.ensures), search rules))
