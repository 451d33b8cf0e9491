-- The first tables are written and checked.
use Rattle.std.proofs.Common.{List}
use Rattle.table_store.specs.File.{FileOf}
use Rattle.folder_checks.specs.FolderChecks.{IsCheckingFolder}
use Rattle.convert_folders.specs.Conversions.{AreConversions}
use Rattle.convert_folders.proofs.tables.write_tables.Given as goal

abbrev pub invariant-loop-table : goal.invariant-loop-table
invariant-loop-table l = (files : List FileOf) × AreConversions files × IsCheckingFolder l.text.items files l.check
