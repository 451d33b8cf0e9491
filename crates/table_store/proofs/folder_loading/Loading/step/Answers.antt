use Rattle.std.proofs.Common.{Option, sym, subst}
use Rattle.std.proofs.lemmas.Result.{IfErr-weaker}
use Rattle.table_store.specs.FolderSteps.{Loads}
use Rattle.table_store.specs.declared.table_loading.TableLoading.{TableLoading}
use Rattle.table_store.proofs.folder_loading.Loading.step.Goals as goal

pub returns-in-Some-clause-fault : goal.returns-in-Some-clause-fault
returns-in-Some-clause-fault c =
    IfErr-weaker c.go_on.result _ _ (λ fault refused folder loads. refused folder (subst (λ (t : Option TableLoading). Loads folder (record c.args.self { table = t })) (sym c.in-Some.ensures.value) loads)) c.go_on.ensures.fault
