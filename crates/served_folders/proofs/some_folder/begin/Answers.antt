use Rattle.table_store.specs.Fault.{load_cause}
use Rattle.served_folders.proofs.FolderWith.{begin_refused, begun}
use Rattle.served_folders.proofs.some_folder.begin.Goals as goal

pub returns-in-Ok-clause-goes_on : goal.returns-in-Ok-clause-goes_on
returns-in-Ok-clause-goes_on c = begun c.args.loading c.in-Ok.loading c.args.file c.requires.next c.in-Ok.ensures.goes_on c.requires.loads

pub returns-in-Err-clause-fault : goal.returns-in-Err-clause-fault
returns-in-Err-clause-fault c = begin_refused c.args.loading c.args.file (load_cause c.in-Err.fault) c.requires.next c.in-Err.ensures.fault c.requires.loads
