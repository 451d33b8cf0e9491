-- Refusals of folders whose files are not told.
use Rattle.std.proofs.Common.{◌≡◌, Option, Some, None, refl}
use Rattle.std.specs.Prelude.{IfSome}
use Rattle.table_store.specs.Catalog.{FolderOf, IsRefused}
use Rattle.table_store.specs.Fault.{LoadCause, no_metadata}
use Rattle.served_folders.specs.Folders.{RefusesTaken, empty_folder, greatest_limits}

pub refused_untold : (folder : FolderOf) (cause : Option LoadCause) → folder.limits ≡ greatest_limits → IfSome cause (IsRefused folder)
    → IfSome cause (RefusesTaken None)
refused_untold folder None limits h = tt
refused_untold folder (Some cause) limits h = record { folder = folder; limits = limits; same = tt; refused = h }

pub empty_untold : RefusesTaken None no_metadata
empty_untold = record { folder = empty_folder; limits = refl; same = tt; refused = refl }
