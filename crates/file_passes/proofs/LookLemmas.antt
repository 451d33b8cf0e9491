-- A look at more bytes.
use Rattle.std.proofs.Common.{ℕ, List, Result, Ok, Err, IfOk}
use Rattle.csvw_meta.specs.declared.limits.Limits.{Limits}
use Rattle.schema_inference.specs.Looks.{GivesTo, IsLooking}
use Rattle.schema_inference.specs.declared.fault.LeftOutCause.{LeftOutCause}
use Rattle.schema_inference.specs.declared.file_guess.FileGuess.{FileGuess}

pub some_given : (limits : Limits) (bytes : List ℕ) (fed : Result FileGuess LeftOutCause) → GivesTo limits bytes fed → IfOk fed (λ look. (given : List ℕ) × IsLooking given look)
some_given limits bytes (Ok look) gives = (bytes, gives)
some_given limits bytes (Err cause) gives = tt
