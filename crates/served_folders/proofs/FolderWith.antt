-- A folder whose file of one name is another, and a step of the loading of some folder.
use Rattle.std.proofs.Common.{◌≡◌, ◌<◌, ◌+◌, ℕ, Bool, true, false, cond, List, [], ◌∷◌, ◌++◌, length, replicate, Option, Some, None, refl, sym, ap, subst, ◌∙◌, arith, if◌then◌else◌}
use Rattle.std.specs.Prelude.{IfSome, IsSome, option_map}
use Rattle.std.specs.List.{find}
use Rattle.std.specs.Str.{bytes_eq}
use Rattle.std.proofs.lemmas.List.{length-replicate}
use Rattle.std.proofs.lemmas.Slice.Eq.{bytes_eq-Decides}
use Rattle.table_store.specs.Catalog.{FolderOf, IsRefused}
use Rattle.table_store.specs.Fault.{LoadCause}
use Rattle.table_store.specs.File.{file_named, with_more, FileOf, IsSuchFile}
use Rattle.table_store.specs.FolderSteps.{next_url, steps_left, waiting_url, BeginsTable, FeedsTable, IsFolderWith, IsFolderWithMore, Loads}
use Rattle.table_store.specs.declared.file.FileStart.{FileStart}
use Rattle.table_store.specs.declared.file.FileStart.TheVariants.{Missing, TooLarge, Begins}
use Rattle.table_store.specs.declared.folder_loading.Loading.{Loading}
use Rattle.served_folders.specs.Folders.{RefusesTaken, greatest_limits}
use Rattle.served_folders.specs.Steps.{IsLoadingTaken}
use Rattle.served_folders.proofs.Disks.{refused_untold}

named : List ℕ → Option (List ℕ) → List FileOf
named url None = []
named url (Some bytes) = record { name = url; bytes = bytes } ∷ []

abbrev kept : Bool → FileOf → List FileOf → List FileOf
kept true file files = files
kept false file files = file ∷ files

-- the files of other names
abbrev without : List ℕ → List FileOf → List FileOf
without url [] = []
without url (file ∷ files) = kept (bytes_eq file.name url) file (without url files)

abbrev bytes_in : Option FileOf → Option (List ℕ)
bytes_in found = option_map (λ (file : FileOf). file.bytes) found

none_kept : (is : Bool) (url : List ℕ) (file : FileOf) (files : List FileOf) → is ≡ bytes_eq file.name url → file_named url files ≡ None → file_named url (kept is file files) ≡ None
none_kept true url file files e none = none
none_kept false url file files e none = subst (λ b. bytes_in (cond b (Some file) (find (λ (f : FileOf). bytes_eq f.name url) files)) ≡ None) e none

none_without : (url : List ℕ) (files : List FileOf) → file_named url (without url files) ≡ None
none_without url [] = refl
none_without url (file ∷ files) = none_kept (bytes_eq file.name url) url file (without url files) refl (none_without url files)

same_found : (is : Bool) (file : FileOf) (found others : Option FileOf) → bytes_in found ≡ bytes_in others → bytes_in (cond is (Some file) found) ≡ bytes_in (cond is (Some file) others)
same_found true file found others e = refl
same_found false file found others e = e

not_named : (a other url : List ℕ) (is : Bool) → is ≡ bytes_eq a other → bytes_eq a url ≡ true → bytes_eq other url ≡ false → is ≡ false
not_named a other url true e f g =
    let same : a ≡ other = (bytes_eq-Decides a other).0 (sym e) in
    let no : true ≡ false = sym f ∙ ap (λ x. bytes_eq x url) same ∙ g in absurd (cc)
not_named a other url false e f g = refl

others_kept : (is : Bool) (other url : List ℕ) (file : FileOf) (files kept_files : List FileOf) → is ≡ bytes_eq file.name url → bytes_eq other url ≡ false
    → file_named other kept_files ≡ file_named other files → file_named other (kept is file kept_files) ≡ file_named other (file ∷ files)
others_kept true other url file files kept_files e differs same =
    let not_it : bytes_eq file.name other ≡ false = not_named file.name other url (bytes_eq file.name other) refl (sym e) differs in
    same ∙ subst (λ b. bytes_in (find (λ (f : FileOf). bytes_eq f.name other) files) ≡ bytes_in (cond b (Some file) (find (λ (f : FileOf). bytes_eq f.name other) files))) (sym not_it) refl
others_kept false other url file files kept_files e differs same =
    same_found (bytes_eq file.name other) file (find (λ (f : FileOf). bytes_eq f.name other) kept_files) (find (λ (f : FileOf). bytes_eq f.name other) files) same

others_without : (other url : List ℕ) (files : List FileOf) → bytes_eq other url ≡ false → file_named other (without url files) ≡ file_named other files
others_without other url [] differs = refl
others_without other url (file ∷ files) differs =
    others_kept (bytes_eq file.name url) other url file files (without url files) refl differs (others_without other url files differs)

eq_self : (a : List ℕ) → bytes_eq a a ≡ true
eq_self a = (bytes_eq-Decides a a).1 refl

eq_other : (a b : List ℕ) (is : Bool) → is ≡ bytes_eq a b → bytes_eq b a ≡ false → is ≡ false
eq_other a b true e f =
    let same : a ≡ b = (bytes_eq-Decides a b).0 (sym e) in
    let no : true ≡ false = sym ((bytes_eq-Decides b a).1 (sym same)) ∙ f in absurd (cc)
eq_other a b false e f = refl

-- some folder has that file, and else the same
pub folder_with : (folder : FolderOf) (url : List ℕ) (file : Option (List ℕ)) → (new : FolderOf) × IsFolderWith folder new url file
folder_with folder url None = (
  record folder { files = without url folder.files },
  record {
    limits = refl;
    meta = refl;
    has = none_without url folder.files;
    others = λ other differs. others_without other url folder.files differs;
  },
)
folder_with folder url (Some bytes) =
    let file : FileOf = record { name = url; bytes = bytes } in
    let rest = without url folder.files in (
      record folder { files = file ∷ rest },
      record {
        limits = refl;
        meta = refl;
        has = subst (λ b. bytes_in (cond b (Some file) (find (λ (f : FileOf). bytes_eq f.name url) rest)) ≡ Some bytes) (sym (eq_self url)) refl;
        others = λ other differs.
            subst (λ b. bytes_in (cond b (Some file) (find (λ (f : FileOf). bytes_eq f.name other) rest)) ≡ file_named other folder.files)
            (sym (eq_other url other (bytes_eq url other) refl differs)) (others_without other url folder.files differs);
      },
    )

-- ---- what there is of a file is so of some
longer : (most : ℕ) → (bytes : List ℕ) × (most < length bytes)
longer most = (replicate (most + 1) 0, rw (length-replicate {A = ℕ} (most + 1) 0) (omega arith))

some_file : (limit : ℕ) (of : FileStart) → (file : Option (List ℕ)) × IsSuchFile limit of file
some_file limit Missing = (None, refl)
some_file limit TooLarge = let large = longer limit in (Some large.0, (large.0, refl, large.1))
some_file limit (Begins bytes) = (Some bytes.items, refl)

-- the url that there is
some_url : (url : Option (List ℕ)) → IsSome url → (is : List ℕ) × (url ≡ Some is)
some_url None some = absurd (cc)
some_url (Some url) some = (url, refl)

-- ---- a table is begun
pub begun : (loading new : Loading) (of : FileStart) → IsSome (next_url loading)
    → ((folder next : FolderOf) → BeginsTable folder next of loading → Loads next new × (steps_left new < steps_left loading))
    → IsLoadingTaken loading → IsLoadingTaken new × (steps_left new < steps_left loading)
begun loading new of some on taken =
    let url = some_url (next_url loading) some in
    let file = some_file taken.folder.limits.file of in
    let next = folder_with taken.folder url.0 file.0 in
    let loads = on taken.folder next.0 (record { loads = taken.loads; file = file.0; such = rw next.1.limits file.1; same = subst (λ o. IfSome o (λ u. IsFolderWith taken.folder next.0 u file.0)) (sym url.1) next.1 }) in
    (record { folder = next.0; limits = next.1.limits ∙ taken.limits; loads = loads.0 }, loads.1)

pub begin_refused : (loading : Loading) (of : FileStart) (cause : Option LoadCause) → IsSome (next_url loading)
    → ((folder next : FolderOf) → BeginsTable folder next of loading → IfSome cause (IsRefused next))
    → IsLoadingTaken loading → IfSome cause (RefusesTaken None)
begin_refused loading of cause some refused taken =
    let url = some_url (next_url loading) some in
    let file = some_file taken.folder.limits.file of in
    let next = folder_with taken.folder url.0 file.0 in
    refused_untold next.0 cause (next.1.limits ∙ taken.limits) (refused taken.folder next.0 (record { loads = taken.loads; file = file.0; such = rw next.1.limits file.1; same = subst (λ o. IfSome o (λ u. IsFolderWith taken.folder next.0 u file.0)) (sym url.1) next.1 }))

-- ---- a table has more of its file
pub fed : (loading new : Loading) (bytes : List ℕ) → IsSome (waiting_url loading)
    → ((folder next : FolderOf) → FeedsTable folder next bytes loading → Loads next new × (steps_left new < steps_left loading))
    → IsLoadingTaken loading → IsLoadingTaken new × (steps_left new < steps_left loading)
fed loading new bytes some on taken =
    let url = some_url (waiting_url loading) some in
    let next = folder_with taken.folder url.0 (with_more bytes (file_named url.0 taken.folder.files)) in
    let loads = on taken.folder next.0 (record { loads = taken.loads; same = subst (λ o. IfSome o (λ u. IsFolderWithMore taken.folder next.0 u bytes)) (sym url.1) next.1 }) in
    (record { folder = next.0; limits = next.1.limits ∙ taken.limits; loads = loads.0 }, loads.1)

pub feed_refused : (loading : Loading) (bytes : List ℕ) (cause : Option LoadCause) → IsSome (waiting_url loading)
    → ((folder next : FolderOf) → FeedsTable folder next bytes loading → IfSome cause (IsRefused next))
    → IsLoadingTaken loading → IfSome cause (RefusesTaken None)
feed_refused loading bytes cause some refused taken =
    let url = some_url (waiting_url loading) some in
    let next = folder_with taken.folder url.0 (with_more bytes (file_named url.0 taken.folder.files)) in
    refused_untold next.0 cause (next.1.limits ∙ taken.limits) (refused taken.folder next.0 (record { loads = taken.loads; same = subst (λ o. IfSome o (λ u. IsFolderWithMore taken.folder next.0 u bytes)) (sym url.1) next.1 }))
