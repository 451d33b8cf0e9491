-- Files of tables in their order are those of a folder.
use Rattle.std.proofs.Common.{◌≡◌, ◌≤◌, false, List, [], ◌∷◌, ◌++◌, ℕ, cond, length, map, Option, None, Some, option_map, refl, sym, subst, inl, inr}
use Rattle.std.specs.List.{find, AllByRecursion, IsDistinct}
use Rattle.std.specs.Str.{bytes_eq}
use Rattle.std.proofs.lemmas.Map.Keys.{IsDistinct-head, IsDistinct-tail}
use Rattle.std.proofs.lemmas.Slice.Eq.{bytes_eq-Decides}
use Rattle.csvw_meta.specs.Schema.{SchemaOf}
use Rattle.csvw_meta.specs.declared.limits.TheConstants.{MOST_FILE_BYTES}
use Rattle.table_store.specs.Catalog.{HasTable, HasTableCause, HaveTables, IsFirstBadTable}
use Rattle.table_store.specs.Fault.{TableCause}
use Rattle.table_store.specs.File.{file_named, FileOf}
use Rattle.table_store.specs.Table.{TableOf}
use Rattle.folder_checks.specs.Checks.{IsSomeTable}
use Rattle.folder_checks.specs.FolderChecks.{with_file, AreCheckedBy}

abbrev urls_of : List SchemaOf → List (List ℕ)
urls_of schemas = map (λ (schema : SchemaOf). schema.url) schemas

-- the file of a name before others, and the others
file_first : (file : FileOf) (url : List ℕ) (files : List FileOf) → file.name ≡ url → file_named url (file ∷ files) ≡ Some file.bytes
file_first file url files e =
    subst (λ b. option_map (λ (f : FileOf). f.bytes) (cond b (Some file) (find (λ (f : FileOf). bytes_eq f.name url) files)) ≡ Some file.bytes)
    (sym ((bytes_eq-Decides file.name url).1 e)) refl

file_next : (file : FileOf) (other : List ℕ) (files : List FileOf) → bytes_eq file.name other ≡ false → file_named other (file ∷ files) ≡ file_named other files
file_next file other files differs =
    subst (λ b. option_map (λ (f : FileOf). f.bytes) (cond b (Some file) (find (λ (f : FileOf). bytes_eq f.name other) files)) ≡ file_named other files) (sym differs) refl

-- files of other names keep their tables
tables_next : (file : FileOf) (files : List FileOf) (schemas : List SchemaOf) (tables : List TableOf) → AllByRecursion (λ other. bytes_eq file.name other ≡ false) (urls_of schemas)
    → HaveTables MOST_FILE_BYTES files schemas tables → HaveTables MOST_FILE_BYTES (file ∷ files) schemas tables
tables_next file files [] [] differ have = tt
tables_next file files [] (t ∷ tables) differ have = absurd have
tables_next file files (s ∷ schemas) [] differ have = absurd have
tables_next file files (s ∷ schemas) (t ∷ tables) differ have = (
  subst (λ f. HasTable MOST_FILE_BYTES f s t) (sym (file_next file s.url files differ.0)) have.0,
  tables_next file files schemas tables differ.1 have.1,
)

bad_next : (file : FileOf) (files : List FileOf) (schemas : List SchemaOf) (of : List ℕ) (cause : TableCause) → AllByRecursion (λ other. bytes_eq file.name other ≡ false) (urls_of schemas)
    → IsFirstBadTable MOST_FILE_BYTES files schemas of cause → IsFirstBadTable MOST_FILE_BYTES (file ∷ files) schemas of cause
bad_next file files [] of cause differ bad = absurd bad
bad_next file files (s ∷ schemas) of cause differ (inl here) =
    inl (here.0, subst (λ f. HasTableCause MOST_FILE_BYTES f s cause) (sym (file_next file s.url files differ.0)) here.1)
bad_next file files (s ∷ schemas) of cause differ (inr later) =
    inr (later.0, subst (λ f. HasTable MOST_FILE_BYTES f s later.0) (sym (file_next file s.url files differ.0)) later.1, bad_next file files schemas of cause differ.1 later.2)

-- the table of the first
table_first : (file : FileOf) (files : List FileOf) (schema : SchemaOf) → file.name ≡ schema.url → length file.bytes ≤ MOST_FILE_BYTES → (some : IsSomeTable schema file.bytes)
    → HasTable MOST_FILE_BYTES (file_named schema.url (file ∷ files)) schema some.0
table_first file files schema e short some =
    record { bytes = file.bytes; has_file = (file_first file schema.url files e, short); is = some.1 }

others_differ : (file : FileOf) (schema : SchemaOf) (schemas : List SchemaOf) → file.name ≡ schema.url → IsDistinct bytes_eq (urls_of (schema ∷ schemas))
    → AllByRecursion (λ other. bytes_eq file.name other ≡ false) (urls_of schemas)
others_differ file schema schemas e distinct =
    subst (λ name. AllByRecursion (λ other. bytes_eq name other ≡ false) (urls_of schemas)) (sym e) (IsDistinct-head bytes_eq schema.url (urls_of schemas) distinct)

-- ---- the folder of the files

pub served_by : (schemas : List SchemaOf) (files : List FileOf) → IsDistinct bytes_eq (urls_of schemas) → AreCheckedBy schemas files
    → (tables : List TableOf) × HaveTables MOST_FILE_BYTES files schemas tables
served_by [] [] distinct checked = ([], tt)
served_by [] (file ∷ files) distinct checked = absurd checked
served_by (schema ∷ schemas) [] distinct checked = absurd checked
served_by (schema ∷ schemas) (file ∷ files) distinct checked =
    let rest = served_by schemas files (IsDistinct-tail bytes_eq schema.url (urls_of schemas) distinct) checked.3 in (
      checked.2.0 ∷ rest.0,
      (table_first file files schema checked.0 checked.1 checked.2, tables_next file files schemas rest.0 (others_differ file schema schemas checked.0 distinct) rest.1),
    )

last_named : (schema : SchemaOf) (file : Option (List ℕ)) → file_named schema.url (with_file (Some schema) [] file) ≡ file
last_named schema None = refl
last_named schema (Some bytes) = file_first (record { name = schema.url; bytes = bytes }) schema.url [] refl

with_first : (schema : SchemaOf) (first : FileOf) (files : List FileOf) (file : Option (List ℕ)) → with_file (Some schema) (first ∷ files) file ≡ first ∷ with_file (Some schema) files file
with_first schema first files None = refl
with_first schema first files (Some bytes) = refl

pub refused_by : (before : List SchemaOf) (schema : SchemaOf) (after : List SchemaOf) (files : List FileOf) (file : Option (List ℕ)) (cause : TableCause)
    → IsDistinct bytes_eq (urls_of (before ++ schema ∷ after)) → AreCheckedBy before files → HasTableCause MOST_FILE_BYTES file schema cause
    → IsFirstBadTable MOST_FILE_BYTES (with_file (Some schema) files file) (before ++ schema ∷ after) schema.url cause
refused_by [] schema after [] file cause distinct checked wrong =
    inl (refl, subst (λ f. HasTableCause MOST_FILE_BYTES f schema cause) (sym (last_named schema file)) wrong)
refused_by [] schema after (f ∷ files) file cause distinct checked wrong = absurd checked
refused_by (first ∷ before) schema after [] file cause distinct checked wrong = absurd checked
refused_by (first ∷ before) schema after (f ∷ files) file cause distinct checked wrong =
    let rest = refused_by before schema after files file cause (IsDistinct-tail bytes_eq first.url (urls_of (before ++ schema ∷ after)) distinct) checked.3 wrong in
    let whole = with_file (Some schema) files file in
    subst (λ l. IsFirstBadTable MOST_FILE_BYTES l (first ∷ before ++ schema ∷ after) schema.url cause) (sym (with_first schema f files file))
    (inr (
      checked.2.0,
      table_first f whole first checked.0 checked.1 checked.2,
      bad_next f whole (before ++ schema ∷ after) schema.url cause (others_differ f first (before ++ schema ∷ after) checked.0 distinct) rest,
    ))

pub checked_more : (schemas : List SchemaOf) (files : List FileOf) (schema : SchemaOf) (bytes : List ℕ) → AreCheckedBy schemas files → length bytes ≤ MOST_FILE_BYTES → IsSomeTable schema bytes
    → AreCheckedBy (schemas ++ schema ∷ []) (files ++ (record { name = schema.url; bytes = bytes }) ∷ [])
checked_more [] [] schema bytes checked short some = (refl, short, some, tt)
checked_more [] (file ∷ files) schema bytes checked short some = absurd checked
checked_more (s ∷ schemas) [] schema bytes checked short some = absurd checked
checked_more (s ∷ schemas) (file ∷ files) schema bytes checked short some = (checked.0, checked.1, checked.2, checked_more schemas files schema bytes checked.3 short some)
