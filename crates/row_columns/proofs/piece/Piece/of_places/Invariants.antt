use Rattle.std.proofs.Common.{take}
use Rattle.row_columns.proofs.PieceLemmas.{AreShared}
use Rattle.row_columns.proofs.piece.Piece.of_places.Given as goal

-- the columns so far are those of the block with the first places
abbrev pub invariant-loop-place : goal.invariant-loop-place
invariant-loop-place l = AreShared l.block (take l.place-index l.places) l.columns.items
