-- The range of a column of texts, of its least and its greatest.
use Rattle.std.proofs.Common.{◌≡◌, List, Option, get_or, sym, subst, ap, ◌∙◌}
use Rattle.std.specs.Prelude.{option_map}
use Rattle.block_summary.specs.Ranges.{RangeOf, IsRangeOf}
use Rattle.cell_types.specs.Value.{CellValue, null}
use Rattle.text_columns.specs.Bounds.{range_at, AreTextBounds}
use Rattle.text_columns.specs.declared.bounds.TextBounds.{TextBounds}

pub range-of_texts : (cells seen : List CellValue) (bounds : TextBounds) (least greatest : Option CellValue) (range : RangeOf) → seen ≡ cells → AreTextBounds cells bounds
    → least ≡ option_map (λ row. get_or seen row null) bounds.least → greatest ≡ option_map (λ row. get_or seen row null) bounds.greatest
    → range ≡ record { least = least; greatest = greatest; null_count = bounds.null_count } → IsRangeOf range cells
range-of_texts cells seen bounds least greatest range same are low high is =
    subst (λ r. IsRangeOf r cells)
    (sym (is
    ∙ ap (λ l. record { least = l; greatest = greatest; null_count = bounds.null_count }) low
    ∙ ap (λ h. record { least = option_map (λ row. get_or seen row null) bounds.least; greatest = h; null_count = bounds.null_count }) high
    ∙ ap (λ cs. range_at cs bounds) same))
    are
