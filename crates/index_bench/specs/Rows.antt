-- What an answer says of a file.
use Rattle.std.specs.Prelude.{ℕ, ℤ, pos, negsuc, List, length}
use Rattle.csv_grammar.specs.Records.{Field}
use Rattle.csv_grammar.specs.Files.{FileCause, IsTable, IsFileFault}

-- a number of rows, a file with a fault, or out of memory, which may come at any time
pub data AnswersStatus (bytes : List ℕ) : ℤ → Type 0 where
  table : (header : List Field) (rows : List (List Field)) → IsTable bytes header rows → AnswersStatus bytes (pos (length rows))
  refused : (cause : FileCause) → IsFileFault bytes cause → AnswersStatus bytes (negsuc 0)
  no_memory : AnswersStatus bytes (negsuc 1)
