use Rattle.std.proofs.Common.{◌∙◌, ap, false, length, max, subst}
use Rattle.reply_text.specs.RowSizes.{IsRowFrame}
use Rattle.reply_text.proofs.row_sizes.RowSizes.count_csv.Goals as goal

pub returns : goal.returns
returns c = λ rows names n begin are.
    (c.count.ensures.len ∙ ap (λ k. max k (length c.args.columns.now.rows)) are.0, c.count.ensures.sizes rows names (subst (λ width. IsRowFrame false names width c.row_frame.result) c.width.ensures (c.row_frame.ensures names (λ is. cc))) begin are.1)
