-- The line of a column, piece after piece.
use Rattle.std.proofs.Common.{◌≡◌, ◌++◌, ◌∙◌, Option, ap, codes, ℕ, List, if◌then◌else◌}
use Rattle.block_summary.specs.Ranges.{RangeOf}
use Rattle.cell_types.specs.Column.{ColumnOf}
use Rattle.cell_types.specs.Value.{CellValue}
use Rattle.csvw_meta.specs.Schema.{SchemaOf}
use Rattle.catalog_sheet.specs.Show.{bound_text, column_front, column_line, is_of_key}
use Rattle.catalog_sheet.proofs.SheetLemmas.{added-four}

pub line-of_pieces : (a b c d e end : List ℕ) (column : ColumnOf) (count col : ℕ) (least greatest : Option CellValue) (range whole : RangeOf) (lent schema : SchemaOf)
    → b ≡ a ++ column_front column count → c ≡ b ++ bound_text (codes ", least ") least → d ≡ c ++ bound_text (codes ", greatest ") greatest → e ≡ d ++ end
    → count ≡ range.null_count → least ≡ range.least → greatest ≡ range.greatest
    → end ≡ (if is_of_key lent.key col then codes ", key\n" else codes "\n") → lent ≡ schema → range ≡ whole
    → e ≡ a ++ column_line column whole (is_of_key schema.key col)
line-of_pieces a b c d e end column count col least greatest range whole lent schema first second third fourth count_is least_is greatest_is end_is lent_is range_is =
    let front = column_front column range.null_count in
    let low = bound_text (codes ", least ") range.least in
    let high = bound_text (codes ", greatest ") range.greatest in
    added-four a b c d e (column_front column count) (bound_text (codes ", least ") least) (bound_text (codes ", greatest ") greatest) end first second third fourth
    ∙ ap (λ (n : ℕ). a ++ (column_front column n ++ bound_text (codes ", least ") least ++ bound_text (codes ", greatest ") greatest ++ end)) count_is
    ∙ ap (λ (bound : Option CellValue). a ++ (front ++ bound_text (codes ", least ") bound ++ bound_text (codes ", greatest ") greatest ++ end)) least_is
    ∙ ap (λ (bound : Option CellValue). a ++ (front ++ low ++ bound_text (codes ", greatest ") bound ++ end)) greatest_is
    ∙ ap (λ (text : List ℕ). a ++ (front ++ low ++ high ++ text)) end_is
    ∙ ap (λ (s : SchemaOf). a ++ column_line column range (is_of_key s.key col)) lent_is
    ∙ ap (λ (r : RangeOf). a ++ column_line column r (is_of_key schema.key col)) range_is
