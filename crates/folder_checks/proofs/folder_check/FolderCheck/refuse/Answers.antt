use Rattle.std.proofs.Common.{sym, subst}
use Rattle.std.specs.Prelude.{IfSome}
use Rattle.csvw_meta.specs.declared.limits.TheConstants.{MOST_FILE_BYTES}
use Rattle.table_store.specs.Fault.{load_cause}
use Rattle.table_store.specs.Catalog.{HasTableCause, IsRefused}
use Rattle.folder_checks.specs.Checks.{check_cause, folder_of}
use Rattle.folder_checks.specs.FolderChecks.{with_file}
use Rattle.folder_checks.proofs.FolderCheckLemmas.{next_is, next_refused, next_within}
use Rattle.folder_checks.proofs.folder_check.FolderCheck.refuse.Goals as goal

pub returns : goal.returns
returns c meta files file checks wrong =
    let check = c.args.self in
    let x = c.swap_remove-schema.result in
    let within = next_within check c.requires.next in
    let at = next_is check x within c.swap_remove-schema.ensures.value in
    subst (λ o. IfSome (load_cause c.fault_of.result) (IsRefused (folder_of meta (with_file o files file)))) (sym at)
    (next_refused meta files check x file (check_cause c.args.fault) (load_cause c.fault_of.result) c.accepted_schemas.ensures checks within c.swap_remove-schema.ensures.value
    c.fault_of.ensures (subst (λ o. IfSome o (λ schema. IfSome (check_cause c.args.fault) (HasTableCause MOST_FILE_BYTES file schema))) at wrong))
