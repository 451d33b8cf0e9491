-- A folder has one meaning at most, one cause at most, and not both.
use Rattle.std.proofs.Common.{◌≡◌, ℕ, List, [], ◌∷◌, Option, Some, None, length, Result, Ok, Err, refl, ap, sym, ◌∙◌, option_map, ◌⊎◌, inl, inr, arith}
use Rattle.std.proofs.lemmas.Option.{same_Some}
use Rattle.csv_grammar.specs.Records.{Field}
use Rattle.csv_grammar.specs.Files.{FileCause, IsTable, IsFileFault}
use Rattle.csv_grammar.specs.Laws.{OneTable, OneFileFault}
use Rattle.cell_types.specs.declared.fault.CellFault.{CellFault}
use Rattle.cell_types.specs.Value.{CellValue}
use Rattle.csvw_meta.specs.Document.{schemas_of}
use Rattle.csvw_meta.specs.Fault.{MetaCause}
use Rattle.csvw_meta.specs.Schema.{SchemaOf}
use Rattle.table_store.specs.File.{FileOf, file_named}
use Rattle.key_index.specs.Key.{key_index, null_row, repeated_row}
use Rattle.table_store.specs.Table.{TableOf, keys_of, HasCells, IsAnnotated, mismatch_from, rows_from}
use Rattle.table_store.specs.Fault.{TableCause, file_missing, file_too_large, bad_text, bad_header, bad_cell, key_null, key_twice, LoadCause, no_metadata, bad_meta, bad_table}
use Rattle.table_store.specs.Catalog.{FolderOf, CatalogOf, HasFile, HasTable, HasTableCause, HaveTables, IsFirstBadTable, Means, IsRefused, schemas_in}
use Rattle.table_store.specs.Loading.{HasFileCause}

some-same : {X : Type 0} (o : Option X) (x y : X) → o ≡ Some x → o ≡ Some y → x ≡ y
some-same o x y e f = cc

-- ---- one file
other_rows : (one : OneTable) (schema : SchemaOf) (bytes : List ℕ) (table other : TableOf) → HasCells schema bytes table → HasCells schema bytes other → table.rows ≡ other.rows
other_rows one schema bytes table other a b =
    let same = one bytes a.header b.header a.records b.records a.is b.is in
    let rows = a.values in
    let others = rw (sym same.1) at b.values in
    cc

one_cells : (one : OneTable) (schema : SchemaOf) (bytes : List ℕ) (table other : TableOf) → HasCells schema bytes table → HasCells schema bytes other → table ≡ other
one_cells one schema bytes table other a b =
    let rows = other_rows one schema bytes table other a b in
    let schemas : table.schema ≡ other.schema = a.of_schema ∙ sym b.of_schema in
    ap (λ schema. let t : TableOf = record { schema = schema; rows = table.rows } in t) schemas ∙ ap (λ rows. let t : TableOf = record { schema = other.schema; rows = rows } in t) rows

pub one_table_of : (one : OneTable) (limit : ℕ) (file : Option (List ℕ)) (schema : SchemaOf) (table other : TableOf) → HasTable limit file schema table → HasTable limit file schema other → table ≡ other
one_table_of one limit file schema table other a b =
    let same : a.bytes ≡ b.bytes = some-same file a.bytes b.bytes a.has_file.0 b.has_file.0 in
    let is : IsAnnotated schema b.bytes table = rw same at a.is in
    one_cells one schema b.bytes table other is.cells b.is.cells

pub one_tables : (one : OneTable) (limit : ℕ) (files : List FileOf) (schemas : List SchemaOf) (tables others : List TableOf)
    → HaveTables limit files schemas tables → HaveTables limit files schemas others → tables ≡ others
one_tables one limit files [] [] [] a b = refl
one_tables one limit files [] [] (t ∷ others) a b = absurd b
one_tables one limit files [] (t ∷ tables) others a b = absurd a
one_tables one limit files (s ∷ schemas) [] others a b = absurd a
one_tables one limit files (s ∷ schemas) (t ∷ tables) [] a b = absurd b
one_tables one limit files (s ∷ schemas) (t ∷ tables) (u ∷ others) a b =
    let head = one_table_of one limit (file_named s.url files) s t u a.0 b.0 in
    let tail = one_tables one limit files schemas tables others a.1 b.1 in
    cc

-- ---- one cause of a table
-- the first thing wrong with keys
first_of_keys : Option ℕ → Option ℕ → Option TableCause
first_of_keys (Some row) twice = Some (key_null row)
first_of_keys None (Some row) = Some (key_twice row)
first_of_keys None None = None

-- the first thing wrong with a header and its records
first_of_rows : SchemaOf → Result (List (List CellValue)) (ℕ × ℕ × CellFault) → Option TableCause
first_of_rows schema (Ok rows) = first_of_keys (null_row (key_index schema.key rows)) (repeated_row (key_index schema.key rows))
first_of_rows schema (Err bad) = Some (bad_cell bad.0 bad.1 bad.2)

first_of_header : SchemaOf → Option ℕ → List (List Field) → Option TableCause
first_of_header schema (Some place) records = Some (bad_header place)
first_of_header schema None records = first_of_rows schema (rows_from 0 schema.columns records)

-- which a table with cells has of its keys
of_cells : (schema : SchemaOf) (bytes : List ℕ) (table : TableOf) (a : HasCells schema bytes table)
    → first_of_header schema (mismatch_from 0 schema.columns a.header) a.records ≡ first_of_keys (null_row (keys_of table)) (repeated_row (keys_of table))
unfolding first_of_header first_of_keys first_of_rows
of_cells schema bytes table a =
    rw (a.header_matches, a.values) (ap (λ (s : SchemaOf). first_of_keys (null_row (key_index s.key table.rows)) (repeated_row (key_index s.key table.rows))) (sym a.of_schema))

-- what is first wrong with the bytes of a file: that they are no table, or what is first wrong with its header and records
abbrev IsOfRecords : SchemaOf → List ℕ → Option TableCause → Type 0
IsOfRecords schema bytes found =
    (header : List Field) × (records : List (List Field)) × IsTable bytes header records
    × (first_of_header schema (mismatch_from 0 schema.columns header) records ≡ found)

of_records : (schema : SchemaOf) (bytes : List ℕ) (c : TableCause) → HasFileCause schema bytes c
    → ((fault : FileCause) × (c ≡ bad_text fault) × IsFileFault bytes fault) ⊎ IsOfRecords schema bytes (Some c)
unfolding first_of_header first_of_rows first_of_keys
of_records schema bytes file_missing a = absurd a
of_records schema bytes file_too_large a = absurd a
of_records schema bytes (bad_text fault) a = inl (fault, refl, a)
of_records schema bytes (bad_header place) a = inr (a.header, a.records, a.is, rw a.first refl)
of_records schema bytes (bad_cell row col fault) a = inr (a.header, a.records, a.is, rw (a.header_matches, a.first) refl)
of_records schema bytes (key_null row) a =
    inr (a.cells.header, a.cells.records, a.cells.is, of_cells schema bytes a.table a.cells ∙ rw a.first refl)
of_records schema bytes (key_twice row) a =
    inr (a.cells.header, a.cells.records, a.cells.is, of_cells schema bytes a.table a.cells ∙ rw (a.whole, a.first) refl)

one_of_records : (one : OneTable) (schema : SchemaOf) (bytes : List ℕ) (c d : Option TableCause) → IsOfRecords schema bytes c → IsOfRecords schema bytes d → c ≡ d
one_of_records one schema bytes c d a b =
    let same = one bytes a.0 b.0 a.1 b.1 a.2 b.2 in
    sym a.3 ∙ rw (same.0, same.1) b.3

-- bytes that are there and not too many have one cause
one_file_cause : (one : OneTable) (faults : OneFileFault) (schema : SchemaOf) (bytes : List ℕ) (c d : TableCause) → HasFileCause schema bytes c → HasFileCause schema bytes d → c ≡ d
one_file_cause one faults schema bytes c d a b =
    elim (of_records schema bytes c a) [
      | inl f ↦
          elim (of_records schema bytes d b) [
            | inl g ↦ f.1 ∙ ap bad_text (faults.one bytes f.0 g.0 f.2 g.2) ∙ sym g.1
            | inr s ↦ absurd (faults.none bytes s.0 s.1 f.0 s.2 f.2)
          ]
      | inr r ↦
          elim (of_records schema bytes d b) [
            | inl g ↦ absurd (faults.none bytes r.0 r.1 g.0 r.2 g.2)
            | inr s ↦ same_Some c d (one_of_records one schema bytes (Some c) (Some d) r s)
          ]
    ]

-- a table has none of them
no_file_cause : (one : OneTable) (faults : OneFileFault) (schema : SchemaOf) (bytes : List ℕ) (table : TableOf) (c : TableCause) → IsAnnotated schema bytes table → HasFileCause schema bytes c → ⊥
unfolding first_of_keys
no_file_cause one faults schema bytes table c a b =
    elim (of_records schema bytes c b) [
      | inl f ↦ faults.none bytes a.cells.header a.cells.records f.0 a.cells.is f.2
      | inr r ↦
          let whole : IsOfRecords schema bytes None =
          (a.cells.header, a.cells.records, a.cells.is, of_cells schema bytes table a.cells ∙ rw (a.whole, a.distinct) refl) in
          let e : None ≡ Some c = one_of_records one schema bytes None (Some c) whole r in
          cc
    ]

-- a cause of a table whose file is there, as one of its bytes
of_bytes : (limit : ℕ) (file : Option (List ℕ)) (schema : SchemaOf) (bytes : List ℕ) (c : TableCause) → HasFile limit file bytes → HasTableCause limit file schema c → HasFileCause schema bytes c
of_bytes limit file schema bytes file_missing has a = absurd (let e : None ≡ Some bytes = sym a ∙ has.0 in cc)
of_bytes limit file schema bytes file_too_large has a =
    let same : a.0 ≡ bytes = some-same file a.0 bytes a.1 has.0 in
    omega (arith, ap length same, has.1, a.2)
of_bytes limit file schema bytes (bad_text f) has a = let same : a.0 ≡ bytes = some-same file a.0 bytes a.1.0 has.0 in rw (← same) a.2
of_bytes limit file schema bytes (bad_header p) has a = let same : a.0 ≡ bytes = some-same file a.0 bytes a.1.0 has.0 in rw (← same) a.2
of_bytes limit file schema bytes (bad_cell row col fault) has a = let same : a.0 ≡ bytes = some-same file a.0 bytes a.1.0 has.0 in rw (← same) a.2
of_bytes limit file schema bytes (key_null row) has a = let same : a.0 ≡ bytes = some-same file a.0 bytes a.1.0 has.0 in rw (← same) a.2
of_bytes limit file schema bytes (key_twice row) has a = let same : a.0 ≡ bytes = some-same file a.0 bytes a.1.0 has.0 in rw (← same) a.2

pub no_table_cause : (one : OneTable) (faults : OneFileFault) (limit : ℕ) (file : Option (List ℕ)) (schema : SchemaOf) (table : TableOf) (c : TableCause) → HasTable limit file schema table → HasTableCause limit file schema c → ⊥
no_table_cause one faults limit file schema table c a b = no_file_cause one faults schema a.bytes table c a.is (of_bytes limit file schema a.bytes c a.has_file b)

-- what comes before the bytes are looked at
one_early_cause : (limit : ℕ) (file : Option (List ℕ)) (schema : SchemaOf) (d : TableCause) → HasTableCause limit file schema file_missing → HasTableCause limit file schema d → file_missing ≡ d
one_early_cause limit file schema file_missing a b = refl
one_early_cause limit file schema file_too_large a b = absurd (let e : None ≡ Some b.0 = sym a ∙ b.1 in cc)
one_early_cause limit file schema (bad_text f) a b = absurd (let e : None ≡ Some b.0 = sym a ∙ b.1.0 in cc)
one_early_cause limit file schema (bad_header p) a b = absurd (let e : None ≡ Some b.0 = sym a ∙ b.1.0 in cc)
one_early_cause limit file schema (bad_cell row col fault) a b = absurd (let e : None ≡ Some b.0 = sym a ∙ b.1.0 in cc)
one_early_cause limit file schema (key_null row) a b = absurd (let e : None ≡ Some b.0 = sym a ∙ b.1.0 in cc)
one_early_cause limit file schema (key_twice row) a b = absurd (let e : None ≡ Some b.0 = sym a ∙ b.1.0 in cc)

one_large_cause : (limit : ℕ) (file : Option (List ℕ)) (schema : SchemaOf) (d : TableCause) → HasTableCause limit file schema file_too_large → HasTableCause limit file schema d → file_too_large ≡ d
one_large_cause limit file schema file_missing a b = sym (one_early_cause limit file schema file_too_large b a)
one_large_cause limit file schema file_too_large a b = refl
one_large_cause limit file schema (bad_text f) a b = absurd (of_bytes limit file schema b.0 file_too_large b.1 a)
one_large_cause limit file schema (bad_header p) a b = absurd (of_bytes limit file schema b.0 file_too_large b.1 a)
one_large_cause limit file schema (bad_cell row col fault) a b = absurd (of_bytes limit file schema b.0 file_too_large b.1 a)
one_large_cause limit file schema (key_null row) a b = absurd (of_bytes limit file schema b.0 file_too_large b.1 a)
one_large_cause limit file schema (key_twice row) a b = absurd (of_bytes limit file schema b.0 file_too_large b.1 a)

pub one_table_cause : (one : OneTable) (faults : OneFileFault) (limit : ℕ) (file : Option (List ℕ)) (schema : SchemaOf) (c d : TableCause) → HasTableCause limit file schema c → HasTableCause limit file schema d → c ≡ d
one_table_cause one faults limit file schema file_missing d a b = one_early_cause limit file schema d a b
one_table_cause one faults limit file schema file_too_large d a b = one_large_cause limit file schema d a b
one_table_cause one faults limit file schema (bad_text f) d a b = one_file_cause one faults schema a.0 (bad_text f) d a.2 (of_bytes limit file schema a.0 d a.1 b)
one_table_cause one faults limit file schema (bad_header p) d a b = one_file_cause one faults schema a.0 (bad_header p) d a.2 (of_bytes limit file schema a.0 d a.1 b)
one_table_cause one faults limit file schema (bad_cell row col fault) d a b = one_file_cause one faults schema a.0 (bad_cell row col fault) d a.2 (of_bytes limit file schema a.0 d a.1 b)
one_table_cause one faults limit file schema (key_null row) d a b = one_file_cause one faults schema a.0 (key_null row) d a.2 (of_bytes limit file schema a.0 d a.1 b)
one_table_cause one faults limit file schema (key_twice row) d a b = one_file_cause one faults schema a.0 (key_twice row) d a.2 (of_bytes limit file schema a.0 d a.1 b)

-- ---- the first table that is refused
pub none_bad : (one : OneTable) (faults : OneFileFault) (limit : ℕ) (files : List FileOf) (schemas : List SchemaOf) (tables : List TableOf) (url : List ℕ) (c : TableCause)
    → HaveTables limit files schemas tables → IsFirstBadTable limit files schemas url c → ⊥
none_bad one faults limit files [] tables url c a b = b
none_bad one faults limit files (s ∷ schemas) [] url c a b = absurd a
none_bad one faults limit files (s ∷ schemas) (t ∷ tables) url c a (inl here) = no_table_cause one faults limit (file_named s.url files) s t c a.0 here.1
none_bad one faults limit files (s ∷ schemas) (t ∷ tables) url c a (inr later) = none_bad one faults limit files schemas tables url c a.1 later.2

pub one_first_bad : (one : OneTable) (faults : OneFileFault) (limit : ℕ) (files : List FileOf) (schemas : List SchemaOf) (url : List ℕ) (c : TableCause) (other : List ℕ) (d : TableCause)
    → IsFirstBadTable limit files schemas url c → IsFirstBadTable limit files schemas other d → bad_table url c ≡ bad_table other d
one_first_bad one faults limit files [] url c other d a b = absurd a
one_first_bad one faults limit files (s ∷ schemas) url c other d (inl a) (inl b) =
    let urls : url ≡ other = sym a.0 ∙ b.0 in
    let causes = one_table_cause one faults limit (file_named s.url files) s c d a.1 b.1 in
    cc
one_first_bad one faults limit files (s ∷ schemas) url c other d (inl a) (inr b) = absurd (no_table_cause one faults limit (file_named s.url files) s b.0 c b.1 a.1)
one_first_bad one faults limit files (s ∷ schemas) url c other d (inr a) (inl b) = absurd (no_table_cause one faults limit (file_named s.url files) s a.0 d a.1 b.1)
one_first_bad one faults limit files (s ∷ schemas) url c other d (inr a) (inr b) = one_first_bad one faults limit files schemas url c other d a.2 b.2

-- ---- one folder
has_metadata : (folder : FolderOf) (says : Result (List SchemaOf) MetaCause) → folder.meta ≡ None → schemas_in folder ≡ Some says → ⊥
has_metadata folder says none e =
    let nothing : schemas_in folder ≡ None = ap (option_map (schemas_of folder.limits)) none in
    cc

ok-same : {X E : Type 0} (o : Option (Result X E)) (x y : X) → o ≡ Some (Ok x) → o ≡ Some (Ok y) → x ≡ y
ok-same o x y e f = cc

ok-err : {X E : Type 0} (o : Option (Result X E)) (x : X) (y : E) → o ≡ Some (Ok x) → o ≡ Some (Err y) → ⊥
ok-err o x y e f = cc

err-one : {X E : Type 0} (o : Option (Result X E)) (x y : E) → o ≡ Some (Err x) → o ≡ Some (Err y) → x ≡ y
err-one o x y e f = cc

pub one_cause : (one : OneTable) (faults : OneFileFault) (folder : FolderOf) (a b : LoadCause) → IsRefused folder a → IsRefused folder b → a ≡ b
one_cause one faults folder no_metadata no_metadata a b = refl
one_cause one faults folder no_metadata (bad_meta d) a b = absurd (has_metadata folder (Err d) a b)
one_cause one faults folder no_metadata (bad_table url d) a b = absurd (has_metadata folder (Ok b.0) a b.1)
one_cause one faults folder (bad_meta c) no_metadata a b = absurd (has_metadata folder (Err c) b a)
one_cause one faults folder (bad_meta c) (bad_meta d) a b = ap bad_meta (err-one (schemas_in folder) c d a b)
one_cause one faults folder (bad_meta c) (bad_table url d) a b = absurd (ok-err (schemas_in folder) b.0 c b.1 a)
one_cause one faults folder (bad_table url c) no_metadata a b = absurd (has_metadata folder (Ok a.0) b a.1)
one_cause one faults folder (bad_table url c) (bad_meta d) a b = absurd (ok-err (schemas_in folder) a.0 d a.1 b)
one_cause one faults folder (bad_table url c) (bad_table other d) a b =
    let same : a.0 ≡ b.0 = ok-same (schemas_in folder) a.0 b.0 a.1 b.1 in
    let first : IsFirstBadTable folder.limits.file folder.files b.0 url c = rw (← same) a.2 in
    one_first_bad one faults folder.limits.file folder.files b.0 url c other d first b.2

pub one_catalog : (one : OneTable) (folder : FolderOf) (c d : CatalogOf) → Means folder c → Means folder d → c ≡ d
one_catalog one folder c d a b =
    let same : a.schemas ≡ b.schemas = ok-same (schemas_in folder) a.schemas b.schemas a.read b.read in
    let have : HaveTables folder.limits.file folder.files b.schemas c.tables = rw (← same) a.tables in
    let limits : c.limits ≡ d.limits = a.limits ∙ sym b.limits in
    let tables : c.tables ≡ d.tables = one_tables one folder.limits.file folder.files b.schemas c.tables d.tables have b.tables in
    ap (λ limits. let k : CatalogOf = record { limits = limits; tables = c.tables } in k) limits ∙ ap (λ tables. let k : CatalogOf = record { limits = d.limits; tables = tables } in k) tables

pub not_both : (one : OneTable) (faults : OneFileFault) (folder : FolderOf) (catalog : CatalogOf) (cause : LoadCause) → Means folder catalog → IsRefused folder cause → ⊥
not_both one faults folder catalog no_metadata a b = has_metadata folder (Ok a.schemas) b a.read
not_both one faults folder catalog (bad_meta c) a b = ok-err (schemas_in folder) a.schemas c a.read b
not_both one faults folder catalog (bad_table url c) a b =
    let same : a.schemas ≡ b.0 = ok-same (schemas_in folder) a.schemas b.0 a.read b.1 in
    let have : HaveTables folder.limits.file folder.files b.0 catalog.tables = rw (← same) a.tables in
    none_bad one faults folder.limits.file folder.files b.0 catalog.tables url c have b.2
