-- The next table of a folder that is checked.
use Rattle.std.proofs.Common.{◌≡◌, ◌<◌, ◌≤◌, ℕ, zero, suc, ◌+◌, List, [], ◌∷◌, ◌++◌, drop, get_or, length, map, take, Option, None, Some, IfSome, IsSome, option_map, slice_get, refl, sym, ap, subst, ◌∙◌, arith}
use Rattle.std.specs.List.{IsDistinct}
use Rattle.std.specs.Str.{bytes_eq}
use Rattle.std.proofs.lemmas.List.{map-append, take_all, take_more}
use Rattle.csvw_meta.specs.Laws.{AcceptedSchemas, AreAccepted}
use Rattle.csvw_meta.specs.Schema.{schema_view, SchemaOf}
use Rattle.csvw_meta.specs.declared.limits.TheConstants.{MOST_FILE_BYTES}
use Rattle.csvw_meta.specs.declared.schema.Schema.{Schema}
use Rattle.file_cells.proofs.PlaceLemmas.{slice_get-from_read}
use Rattle.served_folders.specs.Folders.{greatest_limits}
use Rattle.table_store.specs.Catalog.{HasTableCause, IsFirstBadTable, IsRefused}
use Rattle.table_store.specs.Fault.{bad_table, LoadCause, TableCause}
use Rattle.table_store.specs.File.{FileOf}
use Rattle.folder_checks.specs.Checks.{folder_of, IsSomeTable}
use Rattle.folder_checks.specs.FolderChecks.{next_schema, with_file, AreCheckedBy, IsCheckingFolder, IsServedBy}
use Rattle.folder_checks.specs.declared.folder_check.FolderCheck.{FolderCheck}
use Rattle.folder_checks.proofs.SchemaLemmas.{schemas_at}
use Rattle.folder_checks.proofs.OrderLemmas.{checked_more, refused_by, served_by}

next_in : (items : List Schema) (n : ℕ) → IsSome (option_map schema_view (slice_get items n)) → n < length items
next_in [] n some = absurd (cc)
next_in (x ∷ items) zero some = omega arith
next_in (x ∷ items) (suc n) some = omega (arith, next_in items n some)

none_in : (items : List Schema) (n : ℕ) → option_map schema_view (slice_get items n) ≡ None → length items ≤ n
none_in [] n none = omega arith
none_in (x ∷ items) zero none = absurd (cc)
none_in (x ∷ items) (suc n) none = omega (arith, none_in items n none)

-- there is another
pub next_within : (check : FolderCheck) → IsSome (next_schema check) → check.next < length check.schemas.items
next_within check some = next_in check.schemas.items check.next some

pub next_is : (check : FolderCheck) (x : Schema) → check.next < length check.schemas.items → x ≡ get_or check.schemas.items check.next x → next_schema check ≡ Some (schema_view x)
next_is check x within is = ap (option_map schema_view) (slice_get-from_read check.schemas.items check.next x within is)

pub laws_of : (meta : List ℕ) (files : List FileOf) (check : FolderCheck) → AcceptedSchemas → IsCheckingFolder meta files check
    → AreAccepted greatest_limits (map schema_view check.schemas.items)
laws_of meta files check law checks = law greatest_limits meta (map schema_view check.schemas.items) (omega arith) checks.read

-- it is refused
pub next_refused : (meta : List ℕ) (files : List FileOf) (check : FolderCheck) (x : Schema) (file : Option (List ℕ)) (cause : Option TableCause) (load : Option LoadCause) → AcceptedSchemas
    → IsCheckingFolder meta files check → check.next < length check.schemas.items → x ≡ get_or check.schemas.items check.next x
    → load ≡ option_map (bad_table (schema_view x).url) cause → IfSome cause (HasTableCause MOST_FILE_BYTES file (schema_view x))
    → IfSome load (IsRefused (folder_of meta (with_file (Some (schema_view x)) files file)))
next_refused meta files check x file None load law checks within is same wrong =
    subst (λ o. IfSome o (IsRefused (folder_of meta (with_file (Some (schema_view x)) files file)))) (sym same) tt
next_refused meta files check x file (Some cause) load law checks within is same wrong =
    let items = check.schemas.items in
    let n = check.next in
    let parts = schemas_at items n x within is in
    let distinct = subst (λ l. IsDistinct bytes_eq (map (λ (schema : SchemaOf). schema.url) l)) parts (laws_of meta files check law checks).distinct in
    let bad = refused_by (map schema_view (take n items)) (schema_view x) (map schema_view (drop (n + 1) items)) files file cause distinct checks.checked wrong in
    subst (λ o. IfSome o (IsRefused (folder_of meta (with_file (Some (schema_view x)) files file)))) (sym same) (
      map schema_view items,
      ap Some checks.read,
      subst (λ l. IsFirstBadTable MOST_FILE_BYTES (with_file (Some (schema_view x)) files file) l (schema_view x).url cause) (sym parts) bad,
    )

-- it is checked
pub next_checked : (meta : List ℕ) (files : List FileOf) (check new : FolderCheck) (x : Schema) (given : List ℕ) → IsCheckingFolder meta files check
    → check.next < length check.schemas.items → x ≡ get_or check.schemas.items check.next x → new.schemas.items ≡ check.schemas.items → new.next ≡ check.next + 1
    → length given ≤ MOST_FILE_BYTES → IsSomeTable (schema_view x) given → IsCheckingFolder meta (with_file (Some (schema_view x)) files (Some given)) new
next_checked meta files check new x given checks within is same more short some =
    let items = check.schemas.items in
    let n = check.next in
    let names : map schema_view (take (n + 1) items) ≡ map schema_view (take n items) ++ schema_view x ∷ [] =
    ap (map schema_view) (take_more items n x within ∙ ap (λ y. take n items ++ y ∷ []) (sym is)) ∙ map-append schema_view (take n items) (x ∷ []) in
    record {
      read = rw same checks.read;
      within = omega (arith, within, more, ap length same);
      checked = rw (same, more) (subst (λ l. AreCheckedBy l (files ++ (record { name = (schema_view x).url; bytes = given }) ∷ [])) (sym names)
          (checked_more (map schema_view (take n items)) files (schema_view x) given checks.checked short some));
    }

-- all are
pub all_checked : (meta : List ℕ) (files : List FileOf) (check : FolderCheck) → AcceptedSchemas → next_schema check ≡ None → IsCheckingFolder meta files check → IsServedBy meta files
all_checked meta files check law none checks =
    let items = check.schemas.items in
    let whole = subst (λ l. AreCheckedBy (map schema_view l) files) (take_all check.next items (none_in items check.next none)) checks.checked in
    let have = served_by (map schema_view items) files (laws_of meta files check law checks).distinct whole in
    (record { limits = greatest_limits; tables = have.0 }, record { schemas = map schema_view items; read = ap Some checks.read; tables = have.1; limits = refl })
