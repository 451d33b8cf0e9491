use Rattle.std.proofs.Common.{List, sym, subst}
use Rattle.column_blocks.specs.ColumnCells.{ColumnCells}
use Rattle.row_columns.specs.Piece.{HaveTextsAlone}
use Rattle.row_columns.proofs.PieceLemmas.{picked_alone}
use Rattle.row_columns.proofs.piece.Piece.picked.Goals as goal

pub invariant_of-result : goal.invariant_of-result
invariant_of-result c =
    let piece : List ColumnCells = c.args.self.now in
    let first = c.loop-place.invariant in
    subst HaveTextsAlone (sym first) (picked_alone _ piece (subst HaveTextsAlone c.self.view_is c.self.invariant))
