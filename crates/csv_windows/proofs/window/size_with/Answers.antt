use Rattle.std.proofs.Common.{◌≡◌, ◌+◌, ◌++◌, sym, subst, arith}
use Rattle.csv_index.specs.Fault.{text_cause}
use Rattle.csv_windows.specs.Windows.{FollowsTable, IsSizeWith}
use Rattle.csv_windows.specs.declared.front.TableSize.{TableSize}
use Rattle.csv_windows.proofs.FaultLemmas.{faulty_follows}
use Rattle.csv_windows.proofs.PieceLemmas.{more_size, rows_fit}
use Rattle.csv_windows.proofs.window.size_with.Goals as goal

pub overflow_add-result : goal.overflow_add-result
overflow_add-result c =
    let r = c.requires in
    let f = subst (λ l. FollowsTable r.0 r.1 l c.args.file.now) c.in-Table.is r.2 in
    omega (arith, rows_fit c.in_windows.ensures r.0 r.1 c.in-Table.first c.args.file.now f, c.rows-rows.ensures)

pub returns-in-Table-clause-size : goal.returns-in-Table-clause-size
returns-in-Table-clause-size c = λ bytes piece follows.
    let size : TableSize = record { width = c.in-Table.first.width; rows = c.in-Table.first.rows + c.rows-rows.result } in
    let f = subst (λ l. FollowsTable bytes piece l c.args.file.now) c.in-Table.is follows in
    subst (λ l. IsSizeWith bytes (bytes ++ piece) l c.args.file.now size) (sym c.in-Table.is)
    (more_size c.in_windows.ensures bytes piece c.in-Table.first c.args.file.now c.rows-rows.result c.rows-rows.ensures f)

pub returns-in-Faulty-clause-fault : goal.returns-in-Faulty-clause-fault
returns-in-Faulty-clause-fault c = λ bytes piece follows.
    faulty_follows c.in_windows.ensures bytes piece c.in-Faulty.fault c.args.file.now
    (subst (λ l. FollowsTable bytes piece l c.args.file.now) c.in-Faulty.is follows)
