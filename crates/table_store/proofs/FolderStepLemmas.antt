-- One step more of the loading of a folder.
use Rattle.std.proofs.Common.{◌≡◌, ℕ, ◌+◌, ◌*◌, ◌^◌, ◌<◌, ◌≤◌, Bool, true, false, if◌then◌else◌, List, [], ◌∷◌, ◌++◌, length, map, Option, Some, None, Ok, IfSome, IsSome, refl, sym, ap, subst, ◌∙◌, append_assoc, arith, string_bytes}
use Rattle.std.specs.List.{AllByRecursion, IsDistinct}
use Rattle.std.specs.Str.{bytes_eq}
use Rattle.std.specs.VecDeque.{deque_len}
use Rattle.std.proofs.lemmas.Map.Keys.{IsDistinct-head, IsDistinct-tail}
use Rattle.std.proofs.lemmas.Option.{IfSome_then, same_Some}
use Rattle.csvw_meta.specs.Laws.{HasShortDefaults}
use Rattle.csvw_meta.specs.Limits.{LimitsOf}
use Rattle.csvw_meta.specs.Schema.{SchemaOf, schema_view}
use Rattle.csvw_meta.specs.declared.schema.Schema.{Schema}
use Rattle.key_index.specs.declared.reading.Held.{Held}
use Rattle.key_index.specs.declared.reading.Held.TheVariants as held_by
use Rattle.key_index.specs.Reading.{held_left}
use Rattle.table_store.specs.declared.folder_loading.Loading.{Loading}
use Rattle.table_store.specs.declared.reading.Stage.{Stage}
use Rattle.table_store.specs.declared.reading.Stage.TheVariants as stages
use Rattle.table_store.specs.declared.table_loading.TableLoading.{TableLoading}
use Rattle.table_store.specs.Catalog.{schemas_in, FolderOf, HasTable, HaveTables, IsRefused}
use Rattle.table_store.specs.Fault.{LoadCause, no_metadata, bad_meta, bad_table}
use Rattle.table_store.specs.File.{file_named, with_more, FileOf}
use Rattle.table_store.specs.FolderSteps.{coming_schemas, next_of, steps_left, waiting_of, HaveFiles, IsFolderWith, IsFolderWithMore, Loads}
use Rattle.table_store.specs.Loading.{DifferInUrl, HasKeyColumns, IsFirstRefused, IsRefusedTable}
use Rattle.table_store.specs.Steps.{stage_left, stage_wants, IsAtStage, LoadsTable}
use Rattle.table_store.specs.Table.{TableOf}
use Rattle.table_store.proofs.StageLemmas.{few_keys, few_read}
use Rattle.table_store.proofs.CatalogLemmas.{first_refused, HaveTables-more}

-- the first table that is refused is the cause of the folder
refused_folder : (folder : FolderOf) (schemas : List SchemaOf) (cause : LoadCause) → schemas_in folder ≡ Some (Ok schemas)
    → IsFirstRefused folder.limits.file folder.files schemas cause → IsRefused folder cause
refused_folder folder schemas no_metadata is refused = absurd refused
refused_folder folder schemas (bad_meta cause) is refused = absurd refused
refused_folder folder schemas (bad_table url cause) is refused = (schemas, is, refused)

table_refused : (folder : FolderOf) (schemas read coming : List SchemaOf) (tables : List TableOf) (schema : SchemaOf) (cause : Option LoadCause) → schemas_in folder ≡ Some (Ok schemas)
    → HaveTables folder.limits.file folder.files read tables → read ++ schema ∷ coming ≡ schemas
    → IfSome cause (IsRefusedTable folder.limits.file (file_named schema.url folder.files) schema) → IfSome cause (IsRefused folder)
table_refused folder schemas read coming tables schema cause is have all refused =
    IfSome_then cause refused (λ cause h. refused_folder folder schemas cause is
    (subst (λ l. IsFirstRefused folder.limits.file folder.files l cause) all
    (first_refused folder.limits.file folder.files read tables schema coming cause have h)))

pub same_files : (files : List FileOf) (schemas : List SchemaOf) → HaveFiles files files schemas
same_files files [] = tt
same_files files (schema ∷ schemas) = (refl, same_files files schemas)

-- ---- a table is under way
pub more_rows : (folder : FolderOf) (l : Loading) (table new : TableLoading)
    → ((limit : ℕ) (file : Option (List ℕ)) (schema : SchemaOf) → LoadsTable limit file schema table → LoadsTable limit file schema new × (stage_left new.stage < stage_left table.stage))
    → Loads folder (record l { table = Some table })
    → Loads folder (record l { table = Some new }) × (steps_left (record l { table = Some new }) < steps_left (record l { table = Some table }))
more_rows folder l table new on loads =
    let order = loads.order in
    let next = on folder.limits.file (file_named order.0.url folder.files) order.0 order.2 in (
      record {
        limits = loads.limits;
        schemas = loads.schemas;
        metadata = loads.metadata;
        read = loads.read;
        tables = loads.tables;
        order = (order.0, order.1, next.0);
        keys = loads.keys;
        defaults = loads.defaults;
        differ = loads.differ;
        count = loads.count;
      },
      omega (arith, next.1),
    )

pub table_ended : (folder : FolderOf) (l new : Loading) (table : TableLoading) (made : TableOf) → new.limits ≡ l.limits → new.schemas ≡ l.schemas
    → new.tables.items ≡ l.tables.items ++ made ∷ [] → new.table ≡ None
    → ((limit : ℕ) (file : Option (List ℕ)) (schema : SchemaOf) → LoadsTable limit file schema table → HasTable limit file schema made)
    → Loads folder (record l { table = Some table })
    → Loads folder new × (steps_left new < steps_left (record l { table = Some table }))
table_ended folder l new table made same_limits same_schemas pushed none ends loads =
    let order = loads.order in
    let schema = order.0 in
    let coming = coming_schemas l in
    let all : (loads.read ++ schema ∷ []) ++ coming ≡ loads.schemas = append_assoc loads.read (schema ∷ []) coming ∙ order.1 in
    let more = HaveTables-more folder.limits.file folder.files loads.read l.tables.items schema made loads.tables
    (ends folder.limits.file (file_named schema.url folder.files) schema order.2) in (
      record {
        limits = rw same_limits loads.limits;
        schemas = loads.schemas;
        metadata = loads.metadata;
        read = loads.read ++ schema ∷ [];
        tables = rw pushed more;
        order = rw (none, same_schemas) all;
        keys = rw same_schemas loads.keys;
        defaults = rw same_schemas loads.defaults;
        differ = loads.differ;
        count = rw same_schemas loads.count;
      },
      rw (none, same_schemas) (omega arith),
    )

pub under_way_refused : (folder : FolderOf) (l : Loading) (table : TableLoading) (cause : Option LoadCause)
    → ((limit : ℕ) (file : Option (List ℕ)) (schema : SchemaOf) → LoadsTable limit file schema table → IfSome cause (IsRefusedTable limit file schema))
    → Loads folder (record l { table = Some table }) → IfSome cause (IsRefused folder)
under_way_refused folder l table cause refused loads =
    let order = loads.order in
    table_refused folder loads.schemas loads.read (coming_schemas l) l.tables.items order.0 cause loads.metadata loads.tables order.1
    (refused folder.limits.file (file_named order.0.url folder.files) order.0 order.2)

-- ---- a table is begun
few_steps : (rows : ℕ) (held : Held) → held_left rows held ≤ 4 * rows + 5
few_steps rows (held_by.Rising rise) = omega arith
few_steps rows (held_by.Free slots) = omega arith
few_steps rows (held_by.Slots seats) = omega arith

flag : (ended : Bool) → (if ended then 0 else 1) ≤ 1
flag true = omega arith
flag false = omega arith

few_at : (limit : ℕ) (file : Option (List ℕ)) (schema : SchemaOf) (stage : Stage) → IsAtStage limit file schema stage → stage_left stage ≤ 2 ^ 34
few_at limit file schema (stages.File reading) at = omega (arith, flag reading.ended)
few_at limit file schema (stages.Keys keys) at = omega (arith, few_keys limit file schema keys at, few_steps keys.rows keys.held)
few_at limit file schema (stages.Summaries read) at = omega (arith, few_read limit file schema read at)

few_left : (limit : ℕ) (file : Option (List ℕ)) (schema : SchemaOf) (table : TableLoading) → LoadsTable limit file schema table → stage_left table.stage ≤ 2 ^ 34
few_left limit file schema table loads = few_at limit file schema table.stage loads.reads

-- ---- one file of a folder is another
differ_at : (r : List ℕ) (read coming : List SchemaOf) (schema : SchemaOf) → AllByRecursion (λ other. bytes_eq r other ≡ false) (map (λ (s : SchemaOf). s.url) (read ++ schema ∷ coming))
    → bytes_eq r schema.url ≡ false
differ_at r [] coming schema all = all.0
differ_at r (s ∷ read) coming schema all = differ_at r read coming schema all.1

-- the schemas before one have other urls
differ_before : (read coming : List SchemaOf) (schema : SchemaOf) → IsDistinct bytes_eq (map (λ (s : SchemaOf). s.url) (read ++ schema ∷ coming))
    → AllByRecursion (λ other. bytes_eq other schema.url ≡ false) (map (λ (s : SchemaOf). s.url) read)
differ_before [] coming schema all = tt
differ_before (s ∷ read) coming schema all =
    let rest = map (λ (s : SchemaOf). s.url) (read ++ schema ∷ coming) in
    (differ_at s.url read coming schema (IsDistinct-head bytes_eq s.url rest all), differ_before read coming schema (IsDistinct-tail bytes_eq s.url rest all))

-- and so have those after it
pub differ_after : (read coming : List SchemaOf) (schema : SchemaOf) → IsDistinct bytes_eq (map (λ (s : SchemaOf). s.url) (read ++ schema ∷ coming))
    → AllByRecursion (λ other. bytes_eq schema.url other ≡ false) (map (λ (s : SchemaOf). s.url) coming)
differ_after [] coming schema all = IsDistinct-head bytes_eq schema.url (map (λ (s : SchemaOf). s.url) coming) all
differ_after (s ∷ read) coming schema all = differ_after read coming schema (IsDistinct-tail bytes_eq s.url (map (λ (s : SchemaOf). s.url) (read ++ schema ∷ coming)) all)

have_others : (limit : ℕ) (files next : List FileOf) (url : List ℕ) (read : List SchemaOf) (tables : List TableOf)
    → ((other : List ℕ) → bytes_eq other url ≡ false → file_named other next ≡ file_named other files)
    → AllByRecursion (λ other. bytes_eq other url ≡ false) (map (λ (s : SchemaOf). s.url) read) → HaveTables limit files read tables → HaveTables limit next read tables
have_others limit files next url [] [] others differ have = tt
have_others limit files next url [] (t ∷ tables) others differ have = absurd have
have_others limit files next url (s ∷ read) [] others differ have = absurd have
have_others limit files next url (s ∷ read) (t ∷ tables) others differ have =
    (subst (λ f. HasTable limit f s t) (sym (others s.url differ.0)) have.0, have_others limit files next url read tables others differ.1 have.1)

-- the tables before it are those that they were
have_before : (folder new : FolderOf) (schema : SchemaOf) (file : Option (List ℕ)) (schemas read coming : List SchemaOf) (tables : List TableOf)
    → IsFolderWith folder new schema.url file → read ++ schema ∷ coming ≡ schemas → DifferInUrl schemas → HaveTables folder.limits.file folder.files read tables
    → HaveTables new.limits.file new.files read tables
have_before folder new schema file schemas read coming tables with all differ have =
    rw with.limits (have_others folder.limits.file folder.files new.files schema.url read tables with.others
    (differ_before read coming schema (subst (λ s. DifferInUrl s) (sym all) differ)) have)

same_metadata : (folder new : FolderOf) (url : List ℕ) (file : Option (List ℕ)) (schemas : List SchemaOf) → IsFolderWith folder new url file → schemas_in folder ≡ Some (Ok schemas)
    → schemas_in new ≡ Some (Ok schemas)
same_metadata folder new url file schemas with is = rw (with.limits, with.meta) is

-- ---- a table is begun
pub table_begun : (folder new : FolderOf) (l next : Loading) (schema : Schema) (rest : List Schema) (table : TableLoading) (file : Option (List ℕ)) → l.schemas.items ≡ schema ∷ rest
    → next.schemas.items ≡ rest → deque_len next.schemas ≡ length rest → l.table ≡ None → next.table ≡ Some table → next.limits ≡ l.limits → next.tables.items ≡ l.tables.items
    → IsFolderWith folder new (string_bytes schema.url) file → LoadsTable new.limits.file file (schema_view schema) table
    → Loads folder l → Loads new next × (steps_left next < steps_left l)
table_begun folder new l next schema rest table file steps after less none some same_limits same_tables with begun loads =
    let order : loads.read ++ coming_schemas l ≡ loads.schemas = rw none at loads.order in
    let all : loads.read ++ schema_view schema ∷ map schema_view rest ≡ loads.schemas =
    subst (λ items. loads.read ++ map schema_view items ≡ loads.schemas) steps order in
    let few = few_left new.limits.file file (schema_view schema) table begun in (
      record {
        limits = rw same_limits (loads.limits ∙ sym with.limits);
        schemas = loads.schemas;
        metadata = same_metadata folder new (string_bytes schema.url) file loads.schemas with loads.metadata;
        read = loads.read;
        tables = rw same_tables (have_before folder new (schema_view schema) file loads.schemas loads.read (map schema_view rest) l.tables.items with all loads.differ loads.tables);
        order = rw (some, after) (schema_view schema, all, subst (λ f. LoadsTable new.limits.file f (schema_view schema) table) (sym with.has) begun);
        keys = rw after (subst (λ items. AllByRecursion HasKeyColumns (map schema_view items)) steps loads.keys).1;
        defaults = rw after (subst (λ items. AllByRecursion HasShortDefaults (map schema_view items)) steps loads.defaults).1;
        differ = loads.differ;
        count = less ∙ sym (ap length after);
      },
      rw (none, some, after) (omega (arith, few, ap length steps)),
    )

pub next_refused : (folder new : FolderOf) (l : Loading) (schema : Schema) (rest : List Schema) (file : Option (List ℕ)) (cause : Option LoadCause) → l.schemas.items ≡ schema ∷ rest
    → l.table ≡ None → IsFolderWith folder new (string_bytes schema.url) file → IfSome cause (IsRefusedTable new.limits.file file (schema_view schema)) → Loads folder l
    → IfSome cause (IsRefused new)
next_refused folder new l schema rest file cause steps none with refused loads =
    let order : loads.read ++ coming_schemas l ≡ loads.schemas = rw none at loads.order in
    let all : loads.read ++ schema_view schema ∷ map schema_view rest ≡ loads.schemas =
    subst (λ items. loads.read ++ map schema_view items ≡ loads.schemas) steps order in
    table_refused new loads.schemas loads.read (map schema_view rest) l.tables.items (schema_view schema) cause
    (same_metadata folder new (string_bytes schema.url) file loads.schemas with loads.metadata)
    (have_before folder new (schema_view schema) file loads.schemas loads.read (map schema_view rest) l.tables.items with all loads.differ loads.tables)
    all (subst (λ f. IfSome cause (IsRefusedTable new.limits.file f (schema_view schema))) (sym with.has) refused)

-- ---- a table has more of its file
pub table_fed : (folder new : FolderOf) (l : Loading) (table next : TableLoading) (bytes : List ℕ)
    → ((file : Option (List ℕ)) (schema : SchemaOf) → LoadsTable l.limits.file file schema table
    → LoadsTable l.limits.file (with_more bytes file) schema next × (stage_left next.stage < stage_left table.stage))
    → IsFolderWithMore folder new (string_bytes table.schema.url) bytes → Loads folder (record l { table = Some table })
    → Loads new (record l { table = Some next }) × (steps_left (record l { table = Some next }) < steps_left (record l { table = Some table }))
table_fed folder new l table next bytes on with loads =
    let order = loads.order in
    let schema = order.0 in
    let url : string_bytes table.schema.url ≡ schema.url = ap (λ (s : SchemaOf). s.url) order.2.of_schema in
    let here = subst (λ u. IsFolderWithMore folder new u bytes) url with in
    let limit : l.limits.file ≡ folder.limits.file = ap (λ (limits : LimitsOf). limits.file) loads.limits in
    let fed = on (file_named schema.url folder.files) schema (subst (λ n. LoadsTable n (file_named schema.url folder.files) schema table) (sym limit) order.2) in (
      record {
        limits = loads.limits ∙ sym here.limits;
        schemas = loads.schemas;
        metadata = same_metadata folder new schema.url (with_more bytes (file_named schema.url folder.files)) loads.schemas here loads.metadata;
        read = loads.read;
        tables = have_before folder new schema (with_more bytes (file_named schema.url folder.files)) loads.schemas loads.read (coming_schemas l) l.tables.items here order.1 loads.differ loads.tables;
        order = (
          schema,
          order.1,
          subst (λ f. LoadsTable new.limits.file f schema next) (sym here.has)
              (subst (λ n. LoadsTable n (with_more bytes (file_named schema.url folder.files)) schema next) (limit ∙ sym (ap (λ (limits : LimitsOf). limits.file) here.limits)) fed.0),
        );
        keys = loads.keys;
        defaults = loads.defaults;
        differ = loads.differ;
        count = loads.count;
      },
      omega (arith, fed.1),
    )

pub fed_refused : (folder new : FolderOf) (l : Loading) (table : TableLoading) (bytes : List ℕ) (cause : Option LoadCause)
    → ((file : Option (List ℕ)) (schema : SchemaOf) → LoadsTable l.limits.file file schema table → IfSome cause (IsRefusedTable l.limits.file (with_more bytes file) schema))
    → IsFolderWithMore folder new (string_bytes table.schema.url) bytes → Loads folder (record l { table = Some table }) → IfSome cause (IsRefused new)
fed_refused folder new l table bytes cause refused with loads =
    let order = loads.order in
    let schema = order.0 in
    let url : string_bytes table.schema.url ≡ schema.url = ap (λ (s : SchemaOf). s.url) order.2.of_schema in
    let here = subst (λ u. IsFolderWithMore folder new u bytes) url with in
    let limit : l.limits.file ≡ folder.limits.file = ap (λ (limits : LimitsOf). limits.file) loads.limits in
    let is = refused (file_named schema.url folder.files) schema (subst (λ n. LoadsTable n (file_named schema.url folder.files) schema table) (sym limit) order.2) in
    table_refused new loads.schemas loads.read (coming_schemas l) l.tables.items schema cause
    (same_metadata folder new schema.url (with_more bytes (file_named schema.url folder.files)) loads.schemas here loads.metadata)
    (have_before folder new schema (with_more bytes (file_named schema.url folder.files)) loads.schemas loads.read (coming_schemas l) l.tables.items here order.1 loads.differ loads.tables)
    order.1
    (subst (λ f. IfSome cause (IsRefusedTable new.limits.file f schema)) (sym here.has)
    (subst (λ n. IfSome cause (IsRefusedTable n (with_more bytes (file_named schema.url folder.files)) schema)) (limit ∙ sym (ap (λ (limits : LimitsOf). limits.file) here.limits)) is))

-- ---- what is next
pub next_none : (table : Option TableLoading) (coming : List SchemaOf) → IsSome (next_of table coming) → table ≡ None
next_none None coming some = refl
next_none (Some table) coming some = absurd (cc)

pub next_is : (table : Option TableLoading) (coming rest : List SchemaOf) (schema : SchemaOf) → table ≡ None → coming ≡ schema ∷ rest → next_of table coming ≡ Some schema.url
next_is table coming rest schema none is = rw (none, is) refl

pub next_some : (table : Option TableLoading) (coming : List SchemaOf) (url : List ℕ) → next_of table coming ≡ Some url
    → (table ≡ None) × ((schema : SchemaOf) × (rest : List SchemaOf) × (coming ≡ schema ∷ rest) × (schema.url ≡ url))
next_some (Some table) coming url e = absurd (cc)
next_some None [] url e = absurd (cc)
next_some None (schema ∷ rest) url e = (refl, (schema, rest, refl, same_Some schema.url url e))

waiting_by : (wants : Bool) (url : List ℕ) → IsSome (if wants then Some url else None) → (if wants then Some url else None) ≡ Some url
waiting_by true url some = refl
waiting_by false url some = absurd (cc)

pub waiting_is : (table : Option TableLoading) (is : TableLoading) → Some is ≡ table → IsSome (waiting_of table) → waiting_of table ≡ Some (string_bytes is.schema.url)
waiting_is table is e some =
    ap waiting_of (sym e) ∙ waiting_by (stage_wants is.stage) (string_bytes is.schema.url) (subst (λ t. IsSome (waiting_of t)) (sym e) some)
