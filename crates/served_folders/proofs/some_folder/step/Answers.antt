use Rattle.table_store.specs.Fault.{load_cause}
use Rattle.served_folders.proofs.Disks.{refused_untold}
use Rattle.served_folders.proofs.some_folder.step.Goals as goal

pub returns-in-Ok-On-clause-goes_on : goal.returns-in-Ok-On-clause-goes_on
returns-in-Ok-On-clause-goes_on c =
    let of = c.requires.loads in
    let goes = rw c.in-Ok-On.field-0-is at c.in-Ok-On.ensures.goes_on in
    let on = goes of.folder of.loads in
    (record { folder = of.folder; limits = of.limits; loads = on.0 }, on.1)

pub returns-in-Ok-Over-clause-goes_on : goal.returns-in-Ok-Over-clause-goes_on
returns-in-Ok-Over-clause-goes_on c =
    let of = c.requires.loads in
    let goes = rw c.in-Ok-Over.field-0-is at c.in-Ok-Over.ensures.goes_on in
    record { folder = of.folder; limits = of.limits; same = tt; means = goes of.folder of.loads }

pub returns-in-Err-clause-fault : goal.returns-in-Err-clause-fault
returns-in-Err-clause-fault c =
    let of = c.requires.loads in
    refused_untold of.folder (load_cause c.in-Err.fault) of.limits (c.in-Err.ensures.fault of.folder of.loads)
