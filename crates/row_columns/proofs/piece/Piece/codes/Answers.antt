use Rattle.std.proofs.Common.{◌≡◌, ◌<◌, List, Some, length, sym, ap, subst, ◌∙◌, arith}
use Rattle.text_columns.specs.Codes.{AreCodes}
use Rattle.column_blocks.specs.ColumnCells.{ColumnCells}
use Rattle.column_blocks.specs.TypedColumn.{cells_of_texts}
use Rattle.row_columns.specs.Codes.{HaveCodesAt}
use Rattle.row_columns.specs.Piece.{piece_row}
use Rattle.row_columns.proofs.CodeLemmas.{all_coded}
use Rattle.row_columns.proofs.piece.Piece.codes.Goals as goal

pub returns : goal.returns
returns c =
    let columns : List ColumnCells = c.self.inside.columns.items in
    let col = c.args.col in
    let column = c.index.result.now in
    let texts = c.in_ok-texts.texts in
    let codes = c.in_ok-codes.codes.now in
    let within : col < length columns = omega (arith, c.requires, ap (λ (cs : List ColumnCells). length cs) c.self.view_is) in
    let some : cells_of_texts column.kind column.cells ≡ Some texts = sym c.texts.ensures ∙ c.in_ok-texts.was in
    let are : AreCodes codes texts = c.in_ok-codes.ensures in
    subst (λ (cs : List ColumnCells). HaveCodesAt c.as_slice.result.now col (piece_row cs)) c.self.view_is
    (subst (λ ks. HaveCodesAt ks col (piece_row columns)) (sym c.as_slice.ensures.value) (all_coded columns col column texts codes within c.index.ensures some are))
