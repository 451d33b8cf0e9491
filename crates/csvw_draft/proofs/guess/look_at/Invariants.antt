-- So much of the file is given.
use Rattle.std.proofs.Common.{ℕ, List}
use Rattle.schema_inference.specs.Looks.{IsLooking}
use Rattle.csvw_draft.proofs.guess.look_at.Given as goal

abbrev pub invariant-loop-piece : goal.invariant-loop-piece
invariant-loop-piece g l = (given : List ℕ) × IsLooking given l.look
