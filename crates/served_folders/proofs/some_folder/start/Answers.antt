use Rattle.std.proofs.Common.{[], refl}
use Rattle.table_store.specs.Catalog.{folder_view}
use Rattle.table_store.specs.Fault.{load_cause}
use Rattle.served_folders.proofs.Disks.{refused_untold}
use Rattle.served_folders.proofs.some_folder.start.Goals as goal

pub returns-in-Ok-clause-loads : goal.returns-in-Ok-clause-loads
returns-in-Ok-clause-loads c =
    record { folder = folder_view c.greatest.result c.args.meta.items []; limits = cc; loads = c.in-Ok.ensures.loads [] }

pub returns-in-Err-clause-fault : goal.returns-in-Err-clause-fault
returns-in-Err-clause-fault c = refused_untold (folder_view c.greatest.result c.args.meta.items []) (load_cause c.in-Err.fault) (cc) (c.in-Err.ensures.fault [])
