-- So much of what is made is given.
use Rattle.std.proofs.Common.{ℕ, List, IfOk}
use Rattle.schema_inference.specs.Looks.{IsLooking}
use Rattle.file_passes.proofs.looks.look_at.Given as goal

abbrev pub invariant-loop-piece : goal.invariant-loop-piece
invariant-loop-piece l = IfOk l.look (λ look. (given : List ℕ) × IsLooking given look)
