-- So much is made, and all of it is checked.
use Rattle.std.proofs.Common.{ℕ, List}
use Rattle.csvw_meta.specs.Schema.{schema_view}
use Rattle.folder_checks.specs.Checks.{IsChecking}
use Rattle.file_passes.specs.Passes.{IsMaking}
use Rattle.file_passes.proofs.writes.write_file.Given as goal

abbrev pub invariant-loop-piece : goal.invariant-loop-piece
invariant-loop-piece l = (made : List ℕ) × IsMaking l.source.asked made l.pass × IsChecking (schema_view l.schema) made l.check
