use Rattle.std.proofs.Common.{◌≡◌, take}
use Rattle.row_columns.specs.Piece.{piece_at}
use Rattle.row_columns.proofs.piece.Piece.picked.Given as goal

-- the columns with the first places
abbrev pub invariant-loop-place : goal.invariant-loop-place
invariant-loop-place l = l.columns.items ≡ piece_at (take l.place-index l.places) l.self
