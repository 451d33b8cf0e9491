-- The first tables are checked.
use Rattle.std.proofs.Common.{List}
use Rattle.table_store.specs.File.{FileOf}
use Rattle.folder_checks.specs.FolderChecks.{tables_left, IsCheckingFolder}
use Rattle.csvw_draft.proofs.check.check_folder.Given as goal

abbrev pub invariant-loop-check : goal.invariant-loop-check
invariant-loop-check l = (files : List FileOf) × IsCheckingFolder l.text files l.check

abbrev pub decreases-loop-check : goal.decreases-loop-check
decreases-loop-check l = tables_left l.check
