use Rattle.std.proofs.Common.{◌≡◌, ◌<◌, ◌+◌, ◌-◌, arith, get_or, length, Some, refl, sym, subst}
use Rattle.std.specs.Prelude.{IfSome}
use Rattle.std.proofs.lemmas.List.{get_or_read}
use Rattle.std.proofs.lemmas.Option.{IfSome_then}
use Rattle.csvw_meta.specs.Schema.{schema_view}
use Rattle.csvw_meta.specs.declared.limits.TheConstants.{MOST_FILE_BYTES}
use Rattle.served_folders.specs.Folders.{greatest_limits}
use Rattle.table_store.specs.Catalog.{HasTableCause}
use Rattle.folder_checks.specs.Checks.{check_cause, IsChecking}
use Rattle.folder_checks.specs.FolderChecks.{with_file, IsCheckingFolder}
use Rattle.folder_checks.specs.declared.folder_check.FolderCheck.{FolderCheck}
use Rattle.folder_checks.proofs.CheckLemmas.{has_cause}
use Rattle.folder_checks.proofs.FolderCheckLemmas.{laws_of, next_checked, next_is, next_within}
use Rattle.folder_checks.proofs.SchemaLemmas.{key_places}
use Rattle.folder_checks.proofs.folder_check.FolderCheck.end_table.Goals.{After-index}
use Rattle.folder_checks.proofs.folder_check.FolderCheck.end_table.Goals as goal

-- the next schema is read
read_is : (c : After-index) → c.index.result.now ≡ get_or c.args.self.schemas.items c.args.self.next c.index.result.now
read_is c = get_or_read c.args.self.schemas.items c.args.self.next c.index.result.now (next_within c.args.self c.requires.next) c.index.ensures c.index.result.now

pub end-requires-clause-key : goal.end-requires-clause-key
end-requires-clause-key c =
    let check = c.args.self in
    let ends = c.requires.checks.3 in
    let laws = laws_of c.requires.checks.0 c.requires.checks.1 check c.accepted_schemas.ensures ends.folder in
    key_places greatest_limits check.schemas.items check.next c.index.result.now laws.each (next_within check c.requires.next) (read_is (goal.at.end-requires-clause-key c).After-index)

pub end-requires-clause-checks : goal.end-requires-clause-checks
end-requires-clause-checks c =
    let check = c.args.self in
    let given = c.requires.checks.2 in
    let at = next_is check c.index.result.now (next_within check c.requires.next) (read_is (goal.at.end-requires-clause-checks c).After-index) in
    (given, subst (λ o. IfSome o (λ schema. IsChecking schema given c.args.file)) at c.requires.checks.3.checks)

pub returns-in-Ok-clause-checks : goal.returns-in-Ok-clause-checks
returns-in-Ok-clause-checks c meta files given ends =
    let check = c.args.self in
    let x = c.index.result.now in
    let within = next_within check c.requires.next in
    let is = read_is (goal.at.returns-in-Ok-clause-checks c).After-index in
    let at = next_is check x within is in
    let checks : IsChecking (schema_view x) given c.args.file = subst (λ o. IfSome o (λ schema. IsChecking schema given c.args.file)) at ends.checks in
    let new : FolderCheck = record { schemas = check.schemas; next = check.next + 1 } in
    subst (λ o. IsCheckingFolder meta (with_file o files (Some given)) new) (sym at)
    (next_checked meta files check new x given ends.folder within is refl refl checks.fed.short (c.in-Ok.ensures.table given checks))

pub returns-in-Ok-clause-fewer : goal.returns-in-Ok-clause-fewer
returns-in-Ok-clause-fewer c =
    let check = c.args.self in
    let less : length check.schemas.items - (check.next + 1) < length check.schemas.items - check.next = omega (arith, next_within check c.requires.next) in
    less

pub returns-in-Err-clause-fault : goal.returns-in-Err-clause-fault
returns-in-Err-clause-fault c meta files given ends =
    let check = c.args.self in
    let x = c.index.result.now in
    let at = next_is check x (next_within check c.requires.next) (read_is (goal.at.returns-in-Err-clause-fault c).After-index) in
    let checks : IsChecking (schema_view x) given c.args.file = subst (λ o. IfSome o (λ schema. IsChecking schema given c.args.file)) at ends.checks in
    let wrong : IfSome (check_cause c.in-Err.fault) (HasTableCause MOST_FILE_BYTES (Some given) (schema_view x)) =
    IfSome_then (check_cause c.in-Err.fault) (c.in-Err.ensures.fault given checks) (λ cause is. has_cause (schema_view x) given cause checks.fed.short is) in
    c.refuse.ensures meta files (Some given) ends.folder
    (subst (λ o. IfSome o (λ schema. IfSome (check_cause c.in-Err.fault) (HasTableCause MOST_FILE_BYTES (Some given) schema))) (sym at) wrong)
