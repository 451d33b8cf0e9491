use Rattle.table_store.specs.Fault.{load_cause}
use Rattle.served_folders.proofs.FolderWith.{fed, feed_refused}
use Rattle.served_folders.proofs.some_folder.feed.Goals as goal

pub returns-in-Ok-clause-goes_on : goal.returns-in-Ok-clause-goes_on
returns-in-Ok-clause-goes_on c = fed c.args.loading c.in-Ok.loading c.args.bytes.now c.requires.wants c.in-Ok.ensures.goes_on c.requires.loads

pub returns-in-Err-clause-fault : goal.returns-in-Err-clause-fault
returns-in-Err-clause-fault c = feed_refused c.args.loading c.args.bytes.now (load_cause c.in-Err.fault) c.requires.wants c.in-Err.ensures.fault c.requires.loads
