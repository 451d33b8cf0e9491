-- One step more of the loading of a folder whose files are in memory.
use Rattle.std.proofs.Common.{◌≡◌, ℕ, ◌<◌, false, List, [], ◌∷◌, ◌++◌, Option, Some, None, IfSome, refl, sym, ap, subst, ◌∙◌, append-nil}
use Rattle.std.specs.Str.{bytes_eq}
use Rattle.csvw_meta.specs.Schema.{SchemaOf}
use Rattle.table_store.specs.declared.file.NamedFile.{NamedFile}
use Rattle.table_store.specs.declared.file.FileStart.{FileStart}
use Rattle.table_store.specs.declared.file.FileStart.TheVariants.{Missing, TooLarge, Begins}
use Rattle.table_store.specs.declared.folder_loading.Loaded.{Loaded}
use Rattle.table_store.specs.declared.folder_loading.Loaded.TheVariants as steps
use Rattle.table_store.specs.declared.folder_loading.Loading.{Loading}
use Rattle.table_store.specs.Catalog.{FolderOf, IsRefused}
use Rattle.table_store.specs.Fault.{LoadCause}
use Rattle.table_store.specs.File.{file_named, files_view, with_more, IsFileTaken, IsSuchFile}
use Rattle.table_store.specs.FolderSteps.{coming_schemas, next_url, steps_left, waiting_url, BeginsFirst, BeginsTable, FeedsTable, HaveFiles, IsFolderWith, IsFolderWithMore, KeepsComing, Loads, LoadsIn, LoadsOn, LoadsOnIn}
use Rattle.table_store.specs.Loading.{DifferInUrl}
use Rattle.table_store.proofs.CatalogLemmas.{HaveFiles-past}
use Rattle.table_store.proofs.FolderStepLemmas.{differ_after, next_some}

-- ---- the folder has its files in memory
pub same_folder : (folder : FolderOf) (url : List ℕ) → IsFolderWith folder folder url (file_named url folder.files)
same_folder folder url = record { limits = refl; meta = refl; has = refl; others = λ other e. refl }

none_more : (file : Option (List ℕ)) → file ≡ with_more [] file
none_more None = refl
none_more (Some bytes) = ap Some (sym (append-nil bytes))

-- no more of a file
pub same_with_none : (folder : FolderOf) (url : List ℕ) → IsFolderWithMore folder folder url []
same_with_none folder url = record { limits = refl; meta = refl; has = none_more (file_named url folder.files); others = λ other e. refl }

-- the file of the table that is to begin is the folder's, and those of the others are as they were
such_file : (limit : ℕ) (of : FileStart) (file : Option (List ℕ)) → IsFileTaken file of → IsSuchFile limit of file
such_file limit Missing file taken = taken
such_file limit TooLarge file taken = absurd taken
such_file limit (Begins bytes) file taken = taken

same_rest : (schema other : SchemaOf) (rest coming : List SchemaOf) → schema ∷ rest ≡ other ∷ coming → rest ≡ coming
same_rest schema other rest coming e = cc

pub begun_in : (folder : FolderOf) (files now : List NamedFile) (l next : Loading) (url : List ℕ) (of : FileStart) → next_url l ≡ Some url
    → IsFileTaken (file_named url (files_view files)) of
    → ((other : List ℕ) → bytes_eq url other ≡ false → file_named other (files_view now) ≡ file_named other (files_view files))
    → ((folder new : FolderOf) → BeginsTable folder new of l → Loads new next × (steps_left next < steps_left l))
    → BeginsFirst l next → LoadsIn folder files l → LoadsIn folder now next × (steps_left next < steps_left l)
begun_in folder files now l next url of at taken others on begins loads =
    let is = next_some l.table (coming_schemas l) url at in
    let schema = is.1.0 in
    let rest = is.1.1 in
    let named : schema.url ≡ url = is.1.3 in
    let have = subst (HaveFiles folder.files (files_view files)) is.1.2 loads.have in
    let file : file_named url (files_view files) ≡ file_named url folder.files = subst (λ u. file_named u (files_view files) ≡ file_named u folder.files) named have.0 in
    let such = such_file folder.limits.file of (file_named url folder.files) (subst (λ f. IsFileTaken f of) file taken) in
    let new = on folder folder (record { loads = loads.loads; file = file_named url folder.files; such = such; same = rw at (same_folder folder url) }) in
    let order : loads.loads.read ++ coming_schemas l ≡ loads.loads.schemas = rw is.0 at loads.loads.order in
    let all : loads.loads.read ++ schema ∷ rest ≡ loads.loads.schemas = subst (λ c. loads.loads.read ++ c ≡ loads.loads.schemas) is.1.2 order in
    let differ = differ_after loads.loads.read rest schema (subst (λ s. DifferInUrl s) (sym all) loads.loads.differ) in
    let after : rest ≡ coming_schemas next = same_rest schema begins.0 rest (coming_schemas next) (sym is.1.2 ∙ begins.1) in
    let others_by = subst (λ u. (other : List ℕ) → bytes_eq u other ≡ false → file_named other (files_view now) ≡ file_named other (files_view files)) (sym named) others in (
      record { loads = new.0; have = subst (HaveFiles folder.files (files_view now)) after (HaveFiles-past folder.files (files_view files) (files_view now) schema.url rest others_by differ have.1) },
      new.1,
    )

pub begin_refused_in : (folder : FolderOf) (files : List NamedFile) (l : Loading) (url : List ℕ) (of : FileStart) (cause : Option LoadCause) → next_url l ≡ Some url
    → IsFileTaken (file_named url (files_view files)) of
    → ((folder new : FolderOf) → BeginsTable folder new of l → IfSome cause (IsRefused new)) → LoadsIn folder files l → IfSome cause (IsRefused folder)
begin_refused_in folder files l url of cause at taken refused loads =
    let is = next_some l.table (coming_schemas l) url at in
    let have = subst (HaveFiles folder.files (files_view files)) is.1.2 loads.have in
    let file : file_named url (files_view files) ≡ file_named url folder.files = subst (λ u. file_named u (files_view files) ≡ file_named u folder.files) is.1.3 have.0 in
    let such = such_file folder.limits.file of (file_named url folder.files) (subst (λ f. IsFileTaken f of) file taken) in
    refused folder folder (record { loads = loads.loads; file = file_named url folder.files; such = such; same = rw at (same_folder folder url) })

-- at the end of the file
none_waiting : (folder : FolderOf) (url : Option (List ℕ)) → IfSome url (λ u. IsFolderWithMore folder folder u [])
none_waiting folder None = tt
none_waiting folder (Some url) = same_with_none folder url

pub feeds_none : (folder : FolderOf) (files : List NamedFile) (l : Loading) → LoadsIn folder files l → FeedsTable folder folder [] l
feeds_none folder files l loads = record { loads = loads.loads; same = none_waiting folder (waiting_url l) }

-- the files stay
pub keeps_files : (folder : FolderOf) (files : List NamedFile) (l next : Loading) → LoadsIn folder files l → Loads folder next → coming_schemas next ≡ coming_schemas l → LoadsIn folder files next
keeps_files folder files l next loads new same = record { loads = new; have = subst (HaveFiles folder.files (files_view files)) (sym same) loads.have }

pub goes_on_in : (folder : FolderOf) (files : List NamedFile) (l : Loading) (loaded : Loaded) → LoadsOn folder (steps_left l) loaded → KeepsComing (coming_schemas l) loaded → LoadsIn folder files l
    → LoadsOnIn folder files (steps_left l) loaded
goes_on_in folder files l (steps.On next) on same loads = (keeps_files folder files l next loads on.0 same, on.1)
goes_on_in folder files l (steps.Over catalog) on same loads = on
