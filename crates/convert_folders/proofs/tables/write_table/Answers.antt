use Rattle.std.proofs.Common.{subst}
use Rattle.std.specs.Prelude.{IfSome}
use Rattle.std.proofs.lemmas.Result.{IfOk-weaker}
use Rattle.folder_checks.specs.Checks.{IsChecking}
use Rattle.convert_folders.proofs.tables.write_table.Goals as goal

pub end_table-requires-clause-checks : goal.end_table-requires-clause-checks
end_table-requires-clause-checks c =
    let checked = (rw c.in-Ok.is at c.in_ok-file.ensures).1 in (
      c.requires.0,
      c.requires.1,
      checked.1,
      record { folder = c.requires.2; checks = subst (λ o. IfSome o (λ schema. IsChecking schema checked.1 c.in-Ok.file)) c.in-Some.ensures checked.4 },
    )

pub returns-in-Ok : goal.returns-in-Ok
returns-in-Ok c =
    let found = rw c.in-Ok.is at c.in_ok-file.ensures in
    let checked = found.1 in
    let given = subst (λ o. IfSome o (λ schema. IsChecking schema checked.1 c.in-Ok.file)) c.in-Some.ensures checked.4 in
    IfOk-weaker c.end_table.result _ _ (λ new made. (
      checked.1,
      (found.0, checked.0, checked.2, checked.3),
      λ meta files checks. made meta files checked.1 (record { folder = checks; checks = given }),
    )) c.end_table.ensures.checks
