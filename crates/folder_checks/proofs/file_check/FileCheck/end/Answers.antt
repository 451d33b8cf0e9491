use Rattle.std.proofs.Common.{◌≤◌, ℕ, List, Ok, Err, length, sym, subst, arith}
use Rattle.std.proofs.lemmas.Option.{IfSome_then}
use Rattle.std.proofs.lemmas.Result.{IfErr-weaker, IfOk-weaker}
use Rattle.csv_windows.specs.declared.front.FirstLines.TheVariants as lines
use Rattle.csv_windows.proofs.CountLemmas.{rows-within}
use Rattle.csvw_meta.specs.Schema.{schema_view}
use Rattle.file_cells.specs.Cells.{most_rows}
use Rattle.table_store.proofs.LoadingLemmas.{file_wrong, rows_cause}
use Rattle.folder_checks.specs.Cells.{HasKeptLines}
use Rattle.folder_checks.specs.Checks.{check_cause, IsChecking}
use Rattle.folder_checks.proofs.CheckLemmas.{some_table, wrong_checked}
use Rattle.folder_checks.proofs.file_check.FileCheck.end.Goals.{In-Ok-with_cells}
use Rattle.folder_checks.proofs.file_check.FileCheck.end.Goals as goal

pub with_cells-requires : goal.with_cells-requires
with_cells-requires c =
    let schema = schema_view c.args.schema.now in
    let given = c.requires.checks.0 in
    let checks = c.requires.checks.1 in
    let ends = c.in-Ok.ensures.rows given checks.front checks.fed in
    let short : length given ≤ most_rows = omega (arith, checks.fed.short) in
    (checks.front, given, lines.Table c.in-Ok.size, short, subst (λ l. HasKeptLines schema checks.front l c.args.self.cells) (sym ends.0) checks.cells, ends.1)

-- the cells of the whole file
whole_of : (c : In-Ok-with_cells) (given : List ℕ) → IsChecking (schema_view c.args.schema.now) given c.args.self
    → HasKeptLines (schema_view c.args.schema.now) given (lines.Table c.in-Ok.size) (Ok c.in-Ok-with_cells.readers)
whole_of c given checks =
    let schema = schema_view c.args.schema.now in
    let ends = c.in-Ok.ensures.rows given checks.front checks.fed in
    c.in-Ok-with_cells.ensures checks.front given (lines.Table c.in-Ok.size) (subst (λ l. HasKeptLines schema checks.front l c.args.self.cells) (sym ends.0) checks.cells) ends.1

pub check_keys-requires-clause-few : goal.check_keys-requires-clause-few
check_keys-requires-clause-few c =
    let given = c.requires.checks.0 in
    let checks = c.requires.checks.1 in
    let whole = whole_of c given checks in
    omega (arith, whole.2.rows, rows-within given whole.0 whole.1, checks.fed.short)

pub check_keys-requires-clause-right : goal.check_keys-requires-clause-right
check_keys-requires-clause-right c =
    let whole = whole_of c c.requires.checks.0 c.requires.checks.1 in
    (whole.0, whole.2.rows, whole.3)

pub returns-in-Ok-with_cells-clause-table : goal.returns-in-Ok-with_cells-clause-table
returns-in-Ok-with_cells-clause-table c =
    let at = (goal.at.returns-in-Ok-with_cells-clause-table c).In-Ok-with_cells in
    IfOk-weaker c.check_keys.result _ _ (λ x keys given checks.
    let whole = whole_of at given checks in
    some_table (schema_view c.args.schema.now) given whole.0 c.in-Ok-with_cells.readers.items whole.1 whole.3 (keys whole.0 whole.2.rows whole.3))
    c.check_keys.ensures.keys

pub returns-in-Ok-with_cells-clause-fault : goal.returns-in-Ok-with_cells-clause-fault
returns-in-Ok-with_cells-clause-fault c =
    let at = (goal.at.returns-in-Ok-with_cells-clause-fault c).In-Ok-with_cells in
    IfErr-weaker c.check_keys.result _ _ (λ e wrong given checks.
    let whole = whole_of at given checks in
    IfSome_then (check_cause e) (wrong whole.0 whole.2.rows whole.3)
    (λ cause is. rows_cause (schema_view c.args.schema.now) given whole.0 cause whole.1 whole.3.header_matches is))
    c.check_keys.ensures.fault

pub returns-in-Ok-clause-fault : goal.returns-in-Ok-clause-fault
returns-in-Ok-clause-fault c given checks =
    let schema = schema_view c.args.schema.now in
    let ends = c.in-Ok.ensures.rows given checks.front checks.fed in
    let whole : HasKeptLines schema given (lines.Table c.in-Ok.size) (Err c.in-Err-with_cells.fault) =
    c.in-Err-with_cells.ensures checks.front given (lines.Table c.in-Ok.size) (subst (λ l. HasKeptLines schema checks.front l c.args.self.cells) (sym ends.0) checks.cells) ends.1 in
    file_wrong schema given c.in-Err-with_cells.fault (wrong_checked schema given whole.0 c.in-Err-with_cells.fault whole.1 whole.3)

pub returns-clause-fault : goal.returns-clause-fault
returns-clause-fault c given checks =
    let schema = schema_view c.args.schema.now in
    file_wrong schema given c.fault_of.result (c.fault_of.ensures schema.columns given (c.in-Err.ensures.fault given (checks.front, checks.fed)))
