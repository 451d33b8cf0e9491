use Rattle.std.proofs.Common.{◌<◌, Option, Some, IfSome, sym, subst}
use Rattle.table_store.specs.Fault.{load_cause}
use Rattle.table_store.specs.FolderSteps.{steps_left, IsFolderWithMore, Loads}
use Rattle.table_store.specs.declared.table_loading.TableLoading.{TableLoading}
use Rattle.table_store.proofs.FolderStepLemmas.{fed_refused, table_fed, waiting_is}
use Rattle.table_store.proofs.folder_loading.Loading.feed.Goals as goal

pub returns-in-Ok-clause-goes_on : goal.returns-in-Ok-clause-goes_on
returns-in-Ok-clause-goes_on c = λ folder new feeds.
    let l = c.args.self in
    let table = c.in-Some.table in
    let bytes = c.args.bytes.now in
    let here = subst (λ o. IfSome o (λ url. IsFolderWithMore folder new url bytes)) (waiting_is l.table table c.in-Some.ensures.value c.requires.wants) feeds.same in
    let old = subst (λ (t : Option TableLoading). Loads folder (record l { table = t })) (sym c.in-Some.ensures.value) feeds.loads in
    let next = record l { table = Some c.in-Ok.table } in
    subst (λ (t : Option TableLoading). Loads new next × (steps_left next < steps_left (record l { table = t }))) c.in-Some.ensures.value
    (table_fed folder new l table c.in-Ok.table bytes c.in-Ok.ensures.loads here old)

pub returns-in-Err-clause-fault : goal.returns-in-Err-clause-fault
returns-in-Err-clause-fault c = λ folder new feeds.
    let l = c.args.self in
    let table = c.in-Some.table in
    let bytes = c.args.bytes.now in
    let here = subst (λ o. IfSome o (λ url. IsFolderWithMore folder new url bytes)) (waiting_is l.table table c.in-Some.ensures.value c.requires.wants) feeds.same in
    let old = subst (λ (t : Option TableLoading). Loads folder (record l { table = t })) (sym c.in-Some.ensures.value) feeds.loads in
    fed_refused folder new l table bytes (load_cause c.in-Err.fault) c.in-Err.ensures.fault here old
