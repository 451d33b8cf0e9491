use Rattle.std.proofs.Common.{Some, subst}
use Rattle.std.specs.Prelude.{IfSome}
use Rattle.std.proofs.lemmas.Result.{IfOk-weaker}
use Rattle.folder_checks.specs.Checks.{IsChecking}
use Rattle.folder_checks.specs.FolderChecks.{with_last}
use Rattle.csvw_draft.proofs.check.check_table.Goals as goal

pub end_table-requires-clause-checks : goal.end_table-requires-clause-checks
end_table-requires-clause-checks c =
    let checked = rw c.in-Ok.is at c.in_ok-file.ensures in (
      c.requires.0,
      c.requires.1,
      checked.0,
      record { folder = c.requires.2; checks = subst (λ o. IfSome o (λ schema. IsChecking schema checked.0 c.in-Ok.file)) c.in-Some.ensures checked.1 },
    )

pub returns-in-Ok-clause-checks : goal.returns-in-Ok-clause-checks
returns-in-Ok-clause-checks c =
    let checked = rw c.in-Ok.is at c.in_ok-file.ensures in
    let given = subst (λ o. IfSome o (λ schema. IsChecking schema checked.0 c.in-Ok.file)) c.in-Some.ensures checked.1 in
    IfOk-weaker c.end_table.result _ _ (λ new made meta files checks. (with_last c.args.check files (Some checked.0), made meta files checked.0 (record { folder = checks; checks = given })))
    c.end_table.ensures.checks
