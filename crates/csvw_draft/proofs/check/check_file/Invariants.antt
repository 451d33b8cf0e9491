-- So much of the file is checked.
use Rattle.std.proofs.Common.{ℕ, List}
use Rattle.csvw_meta.specs.Schema.{schema_view}
use Rattle.folder_checks.specs.Checks.{IsChecking}
use Rattle.csvw_draft.proofs.check.check_file.Given as goal

abbrev pub invariant-loop-piece : goal.invariant-loop-piece
invariant-loop-piece g l = (given : List ℕ) × IsChecking (schema_view l.schema) given l.check
