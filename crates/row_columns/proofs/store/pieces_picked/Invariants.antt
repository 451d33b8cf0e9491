use Rattle.std.proofs.Common.{◌≡◌, map, take}
use Rattle.row_columns.specs.Piece.{piece_at}
use Rattle.row_columns.proofs.store.pieces_picked.Given as goal

-- the first pieces
abbrev pub invariant-loop-piece : goal.invariant-loop-piece
invariant-loop-piece l = l.made.items ≡ map (piece_at l.places) (take l.piece-index l.pieces)
