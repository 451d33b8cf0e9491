use Rattle.table_store.specs.Catalog.{folder_view}
use Rattle.table_store.specs.FolderSteps.{steps_left, LoadsIn}
use Rattle.table_store.proofs.catalog.Catalog.load.Given as goal

-- the folder is loaded
abbrev pub invariant-loop-on : goal.invariant-loop-on
invariant-loop-on l = LoadsIn (folder_view l.fn.limits l.fn.meta.items l.fn.files.items) l.files.items l.loading

abbrev pub decreases-loop-on : goal.decreases-loop-on
decreases-loop-on l = steps_left l.loading
