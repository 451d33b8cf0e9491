-- Refusals of the built-in folders.
use Rattle.std.proofs.Common.{◌≡◌, Bool, true, false, not, Option, Some, None, refl, if◌then◌else◌}
use Rattle.std.specs.Prelude.{IfSome}
use Rattle.table_store.specs.Catalog.{FolderOf, IsRefused}
use Rattle.table_store.specs.Fault.{LoadCause}
use Rattle.served_folders.specs.Folders.{RefusesTaken, greatest_limits, notes_folder, empty_folder}

refused_told : (folder : FolderOf) (cause : Option LoadCause) → folder.limits ≡ greatest_limits → IfSome cause (IsRefused folder)
    → IfSome cause (RefusesTaken (Some folder))
refused_told folder None limits h = tt
refused_told folder (Some cause) limits h = record { folder = folder; limits = limits; same = refl; refused = h }

-- under the name of `notes` it is that folder that is refused
pub refused_notes : (named : Bool) (cause : Option LoadCause) → false ≡ not named → IfSome cause (IsRefused notes_folder)
    → IfSome cause (RefusesTaken (Some (if named then notes_folder else empty_folder)))
refused_notes true cause e h = refused_told notes_folder cause refl h
refused_notes false cause e h = let no : ⊥ = cc in absurd no
