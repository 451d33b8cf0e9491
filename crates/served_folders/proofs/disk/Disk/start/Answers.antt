use Rattle.served_folders.proofs.Disks.{empty_untold}
use Rattle.served_folders.proofs.disk.Disk.start.Goals as goal

pub returns-then-is_empty-clause-fault : goal.returns-then-is_empty-clause-fault
returns-then-is_empty-clause-fault g c = empty_untold

pub returns-in_default-clause-fault : goal.returns-in_default-clause-fault
returns-in_default-clause-fault g c = empty_untold
