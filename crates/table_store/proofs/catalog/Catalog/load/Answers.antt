use Rattle.table_store.specs.Catalog.{folder_view}
use Rattle.table_store.specs.FolderSteps.{coming_schemas}
use Rattle.table_store.specs.File.{files_view}
use Rattle.table_store.proofs.FolderStepLemmas.{same_files}
use Rattle.table_store.proofs.catalog.Catalog.load.Goals as goal

pub returns-in-Err-clause-fault : goal.returns-in-Err-clause-fault
returns-in-Err-clause-fault c = c.in-Err.ensures.fault c.args.files.items

pub loop-on-init : goal.loop-on-init
loop-on-init c = record {
  loads = c.in-Ok.ensures.loads c.args.files.items;
  have = same_files (files_view c.args.files.items) (coming_schemas c.in-Ok.loading);
}

pub loop-on-preserved : goal.loop-on-preserved
loop-on-preserved c =
    let goes = rw c.in-Ok-On.field-0-is at c.in-Ok-On.ensures.goes_on in
    (goes (folder_view c.args.limits c.args.meta.items c.args.files.items) c.loop-on.invariant).0

pub loop-on-smaller : goal.loop-on-smaller
loop-on-smaller c =
    let goes = rw c.in-Ok-On.field-0-is at c.in-Ok-On.ensures.goes_on in
    (goes (folder_view c.args.limits c.args.meta.items c.args.files.items) c.loop-on.invariant).1

pub returns-in-Ok-Over-clause-tables : goal.returns-in-Ok-Over-clause-tables
returns-in-Ok-Over-clause-tables c =
    let goes = rw c.in-Ok-Over.field-0-is at c.in-Ok-Over.ensures.goes_on in
    goes (folder_view c.args.limits c.args.meta.items c.args.files.items) c.loop-on.invariant

pub returns-in-Err-step_in-clause-fault : goal.returns-in-Err-step_in-clause-fault
returns-in-Err-step_in-clause-fault c = c.in-Err-step_in.ensures.fault (folder_view c.args.limits c.args.meta.items c.args.files.items) c.loop-on.invariant
