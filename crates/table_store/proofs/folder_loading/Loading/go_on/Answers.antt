use Rattle.std.proofs.Common.{refl}
use Rattle.table_store.specs.Fault.{load_cause}
use Rattle.table_store.proofs.FolderStepLemmas.{more_rows, table_ended, under_way_refused}
use Rattle.table_store.proofs.folder_loading.Loading.go_on.Goals as goal

pub returns-in-Ok-On-clause-goes_on : goal.returns-in-Ok-On-clause-goes_on
returns-in-Ok-On-clause-goes_on c = λ folder loads.
    let on = rw c.in-Ok-On.field-0-is at c.in-Ok-On.ensures.goes_on in
    more_rows folder c.args.self c.args.table c.in-Ok-On.table on loads

pub returns-in-Ok-clause-goes_on : goal.returns-in-Ok-clause-goes_on
returns-in-Ok-clause-goes_on c = λ folder loads.
    let ends = rw c.in-Ok-Over.field-0-is at c.in-Ok-Over.ensures.goes_on in
    table_ended folder c.args.self _ c.args.table c.in-Ok-Over.table refl refl c.in-Ok.ensures.items c.requires.none ends loads

pub returns-in-Err-clause-fault : goal.returns-in-Err-clause-fault
returns-in-Err-clause-fault c = λ folder loads.
    under_way_refused folder c.args.self c.args.table (load_cause c.in-Err.fault) c.in-Err.ensures.fault loads
