use Rattle.std.proofs.Common.{Some}
use Rattle.folder_checks.specs.FolderChecks.{next_schema, with_last}
use Rattle.convert_folders.proofs.ConversionLemmas.{with_made}
use Rattle.convert_folders.proofs.tables.write_tables.Goals as goal

pub loop-table-preserved : goal.loop-table-preserved
loop-table-preserved c =
    let check = c.loop-table.check in
    let inv = c.loop-table.invariant in
    let wrote = rw c.in-Ok-2.is at c.in_ok-on.ensures in
    (with_last check inv.0 (Some wrote.0), with_made (next_schema check) inv.0 wrote.0 inv.1 wrote.1, wrote.2 c.in-Ok.text.items inv.0 inv.2)
