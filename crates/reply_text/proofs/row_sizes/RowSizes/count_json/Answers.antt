use Rattle.std.proofs.Common.{◌∙◌, ap, true, length, map, max, string_bytes, refl, subst}
use Rattle.reply_text.specs.RowSizes.{IsRowFrame}
use Rattle.reply_text.proofs.row_sizes.RowSizes.count_json.Goals as goal

pub returns : goal.returns
returns c = λ rows n begin are.
    let names = map string_bytes c.args.names.now in
    (c.count.ensures.len ∙ ap (λ k. max k (length c.args.columns.now.rows)) are.0, c.count.ensures.sizes rows names (subst (λ width. IsRowFrame true names width c.row_frame.result) c.width.ensures (c.row_frame.ensures names (λ is. refl))) begin are.1)
