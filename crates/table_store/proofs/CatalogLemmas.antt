-- Crates above may cite this file. Tables one after another: the files that are left, and the first table that is refused.
use Rattle.std.proofs.Common.{◌≡◌, ℕ, suc, false, List, [], ◌∷◌, ◌++◌, map, Option, Some, None, IfSome, option_map, refl, ◌∙◌, inl, inr, arith}
use Rattle.std.specs.List.{All, AllByRecursion}
use Rattle.std.specs.Str.{bytes_eq}
use Rattle.csvw_meta.specs.Limits.{LimitsOf}
use Rattle.csvw_meta.specs.Schema.{SchemaOf}
use Rattle.csvw_meta.specs.Laws.{IsAccepted}
use Rattle.table_store.specs.File.{FileOf, file_named}
use Rattle.table_store.specs.Table.{TableOf}
use Rattle.table_store.specs.Fault.{TableCause, LoadCause, no_metadata, bad_meta, bad_table}
use Rattle.key_index.specs.Keys.{AreColumns}
use Rattle.table_store.specs.Catalog.{HasTable, HasTableCause, HaveTables, IsFirstBadTable}
use Rattle.table_store.specs.FolderSteps.{HaveFiles}
use Rattle.table_store.specs.Loading.{IsRefusedTable, IsFirstRefused}

-- the fault of a table, under its url
pub refused-table : (limit : ℕ) (file : Option (List ℕ)) (schema : SchemaOf) (url : List ℕ) (cause : Option TableCause) (load : Option LoadCause) → load ≡ option_map (bad_table url) cause
    → schema.url ≡ url → IfSome cause (HasTableCause limit file schema) → IfSome load (IsRefusedTable limit file schema)
refused-table limit file schema url None load e same has = rw e tt
refused-table limit file schema url (Some cause) load e same has = rw e (same, has)

-- the keys of accepted schemas are places of their columns
pub accepted_keys : (limits : LimitsOf) (schemas : List SchemaOf) → All (IsAccepted limits) schemas → AllByRecursion (λ (schema : SchemaOf). AreColumns schema.key schema.columns) schemas
accepted_keys limits [] accepted = tt
accepted_keys limits (schema ∷ schemas) accepted =
    ((accepted 0 schema (omega arith)).places, accepted_keys limits schemas (λ k d within. accepted (suc k) d (omega arith)))

-- each of these schemas still has its file where a file of another name was taken
pub HaveFiles-past : (files now next : List FileOf) (url : List ℕ) (schemas : List SchemaOf)
    → ((other : List ℕ) → bytes_eq url other ≡ false → file_named other next ≡ file_named other now)
    → AllByRecursion (λ other. bytes_eq url other ≡ false) (map (λ (schema : SchemaOf). schema.url) schemas)
    → HaveFiles files now schemas → HaveFiles files next schemas
HaveFiles-past files now next url [] others differ have = tt
HaveFiles-past files now next url (schema ∷ schemas) others differ have =
    (others schema.url differ.0 ∙ have.0, HaveFiles-past files now next url schemas others differ.1 have.1)

-- one more table
pub HaveTables-more : (limit : ℕ) (files : List FileOf) (schemas : List SchemaOf) (tables : List TableOf) (schema : SchemaOf) (table : TableOf)
    → HaveTables limit files schemas tables → HasTable limit (file_named schema.url files) schema table
    → HaveTables limit files (schemas ++ schema ∷ []) (tables ++ table ∷ [])
HaveTables-more limit files [] [] schema table have has = (has, tt)
HaveTables-more limit files [] (t ∷ tables) schema table have has = absurd have
HaveTables-more limit files (s ∷ schemas) [] schema table have has = absurd have
HaveTables-more limit files (s ∷ schemas) (t ∷ tables) schema table have has = (have.0, HaveTables-more limit files schemas tables schema table have.1 has)

-- after whole tables, the first that is refused
pub first_bad-behind : (limit : ℕ) (files : List FileOf) (before : List SchemaOf) (tables : List TableOf) (schema : SchemaOf) (behind : List SchemaOf) (url : List ℕ) (cause : TableCause)
    → HaveTables limit files before tables → schema.url ≡ url → HasTableCause limit (file_named schema.url files) schema cause
    → IsFirstBadTable limit files (before ++ schema ∷ behind) url cause
first_bad-behind limit files [] [] schema behind url cause have same has = inl (same, has)
first_bad-behind limit files [] (t ∷ tables) schema behind url cause have same has = absurd have
first_bad-behind limit files (s ∷ before) [] schema behind url cause have same has = absurd have
first_bad-behind limit files (s ∷ before) (t ∷ tables) schema behind url cause have same has =
    inr (t, have.0, first_bad-behind limit files before tables schema behind url cause have.1 same has)

pub first_refused : (limit : ℕ) (files : List FileOf) (before : List SchemaOf) (tables : List TableOf) (schema : SchemaOf) (behind : List SchemaOf) (cause : LoadCause)
    → HaveTables limit files before tables → IsRefusedTable limit (file_named schema.url files) schema cause
    → IsFirstRefused limit files (before ++ schema ∷ behind) cause
first_refused limit files before tables schema behind no_metadata have h = absurd h
first_refused limit files before tables schema behind (bad_meta cause) have h = absurd h
first_refused limit files before tables schema behind (bad_table url cause) have h = first_bad-behind limit files before tables schema behind url cause have h.0 h.1

-- tables have the schemas that they are of
pub HaveTables-schemas : (limit : ℕ) (files : List FileOf) (schemas : List SchemaOf) (tables : List TableOf) → HaveTables limit files schemas tables → map (λ (table : TableOf). table.schema) tables ≡ schemas
HaveTables-schemas limit files [] [] have = refl
HaveTables-schemas limit files [] (t ∷ tables) have = absurd have
HaveTables-schemas limit files (s ∷ schemas) [] have = absurd have
HaveTables-schemas limit files (s ∷ schemas) (t ∷ tables) have =
    let head : t.schema ≡ s = have.0.is.cells.of_schema in
    let tail = HaveTables-schemas limit files schemas tables have.1 in
    cc
