use Rattle.std.proofs.Common.{◌++◌, sym, subst}
use Rattle.csvw_meta.specs.Schema.{schema_view}
use Rattle.folder_checks.specs.Cells.{HasKeptLines}
use Rattle.folder_checks.proofs.CheckLemmas.{checked_on, fed_short}
use Rattle.folder_checks.proofs.file_check.FileCheck.feed.Goals as goal

pub with_cells-requires : goal.with_cells-requires
with_cells-requires c =
    let schema = schema_view c.args.schema.now in
    let given = c.requires.checks.0 in
    let checks = c.requires.checks.1 in
    let windows = c.in-Ok-Rows.windows in
    let reads = (rw c.in-Ok-Rows.field-0-is at c.in-Ok-Rows.ensures.reads) given checks.front checks.fed in (
      checks.front,
      reads.1,
      windows.front.lines,
      fed_short (given ++ c.args.bytes.now) reads.1 windows reads.2,
      subst (λ l. HasKeptLines schema checks.front l c.args.self.cells) (sym reads.0) checks.cells,
      reads.3,
    )

pub returns-in-Ok-Rows-clause-checks : goal.returns-in-Ok-Rows-clause-checks
returns-in-Ok-Rows-clause-checks c given checks =
    let schema = schema_view c.args.schema.now in
    let reads = (rw c.in-Ok-Rows.field-0-is at c.in-Ok-Rows.ensures.reads) given checks.front checks.fed in
    let have = subst (λ l. HasKeptLines schema checks.front l c.args.self.cells) (sym reads.0) checks.cells in
    record { front = reads.1; fed = reads.2; cells = c.with_cells.ensures checks.front reads.1 c.in-Ok-Rows.windows.front.lines have reads.3 }

pub returns-in-Ok-On-clause-checks : goal.returns-in-Ok-On-clause-checks
returns-in-Ok-On-clause-checks c given checks =
    let reads = (rw c.in-Ok-On.field-0-is at c.in-Ok-On.ensures.reads) given checks.front checks.fed in
    checked_on (schema_view c.args.schema.now) given (given ++ c.args.bytes.now) c.args.self c.in-Ok-On.windows checks reads

pub returns-in-Err-clause-fault : goal.returns-in-Err-clause-fault
returns-in-Err-clause-fault c given more checks =
    c.fault_of.ensures (schema_view c.args.schema.now).columns ((given ++ c.args.bytes.now) ++ more) (c.in-Err.ensures.fault given more (checks.front, checks.fed))
