-- A folder has a meaning or a cause.
use Rattle.std.proofs.Common.{◌≡◌, ℕ, ◌≤◌, ◌<◌, List, [], ◌∷◌, length, Option, Some, None, option_map, Result, Ok, Err, refl, ap, ◌∙◌, ◌⊎◌, inl, inr, arith}
use Rattle.std.proofs.lemmas.Bool.{cases_order}
use Rattle.csv_grammar.specs.Records.{Field}
use Rattle.csv_grammar.specs.Files.{IsTable}
use Rattle.csv_grammar.specs.Laws.{TableOrFault}
use Rattle.cell_types.specs.declared.fault.CellFault.{CellFault}
use Rattle.cell_types.specs.Value.{CellValue}
use Rattle.csvw_meta.specs.Document.{schemas_of}
use Rattle.csvw_meta.specs.Fault.{MetaCause}
use Rattle.csvw_meta.specs.Schema.{SchemaOf}
use Rattle.table_store.specs.File.{FileOf, file_named}
use Rattle.key_index.specs.Key.{null_row, repeated_row}
use Rattle.table_store.specs.Table.{TableOf, keys_of, HasCells, mismatch_from, rows_from}
use Rattle.table_store.specs.Fault.{TableCause, file_missing, file_too_large, bad_text, bad_header, bad_cell, key_null, key_twice, LoadCause, no_metadata, bad_meta, bad_table}
use Rattle.table_store.specs.Catalog.{FolderOf, CatalogOf, HasTable, HasTableCause, HaveTables, IsFirstBadTable, Means, IsRefused, schemas_in}

-- a table of a file, or the cause why there is none
abbrev HasOne : ℕ → Option (List ℕ) → SchemaOf → Type 0
HasOne limit file schema = ((table : TableOf) × HasTable limit file schema table) ⊎ ((cause : TableCause) × HasTableCause limit file schema cause)

-- a table with cells, by its keys
of_keys : (limit : ℕ) (schema : SchemaOf) (bytes : List ℕ) (table : TableOf) → length bytes ≤ limit → HasCells schema bytes table
    → (nulls twice : Option ℕ) → null_row (keys_of table) ≡ nulls → repeated_row (keys_of table) ≡ twice → HasOne limit (Some bytes) schema
of_keys limit schema bytes table small cells None None e f =
    inl (table, record { bytes = bytes; has_file = (refl, small); is = record { cells = cells; whole = e; distinct = f } })
of_keys limit schema bytes table small cells None (Some row) e f =
    inr (key_twice row, (bytes, (refl, small), record { table = table; cells = cells; whole = e; first = f }))
of_keys limit schema bytes table small cells (Some row) twice e f =
    inr (key_null row, (bytes, (refl, small), record { table = table; cells = cells; first = e }))

of_rows : (limit : ℕ) (schema : SchemaOf) (bytes : List ℕ) (header : List Field) (records : List (List Field)) → length bytes ≤ limit → IsTable bytes header records
    → mismatch_from 0 schema.columns header ≡ None → (rows : Result (List (List CellValue)) (ℕ × ℕ × CellFault)) → rows_from 0 schema.columns records ≡ rows → HasOne limit (Some bytes) schema
of_rows limit schema bytes header records small is matches (Ok rows) e =
    let table : TableOf = record { schema = schema; rows = rows } in
    of_keys limit schema bytes table small (record { header = header; records = records; is = is; header_matches = matches; of_schema = refl; values = e })
    (null_row (keys_of table)) (repeated_row (keys_of table)) refl refl
of_rows limit schema bytes header records small is matches (Err bad) e =
    inr (bad_cell bad.0 bad.1 bad.2, (bytes, (refl, small), record { header = header; records = records; is = is; header_matches = matches; first = e }))

of_header : (limit : ℕ) (schema : SchemaOf) (bytes : List ℕ) (header : List Field) (records : List (List Field)) → length bytes ≤ limit → IsTable bytes header records
    → (place : Option ℕ) → mismatch_from 0 schema.columns header ≡ place → HasOne limit (Some bytes) schema
of_header limit schema bytes header records small is None e = of_rows limit schema bytes header records small is e (rows_from 0 schema.columns records) refl
of_header limit schema bytes header records small is (Some place) e =
    inr (bad_header place, (bytes, (refl, small), record { header = header; records = records; is = is; first = e }))

of_small : (some : TableOrFault) (limit : ℕ) (schema : SchemaOf) (bytes : List ℕ) → length bytes ≤ limit → HasOne limit (Some bytes) schema
of_small some limit schema bytes small =
    elim (some bytes) [
      | inl t ↦ of_header limit schema bytes t.0 t.1 small t.2 (mismatch_from 0 schema.columns t.0) refl
      | inr f ↦ inr (bad_text f.0, (bytes, (refl, small), f.1))
    ]

small_or_large : (n limit : ℕ) → (n ≤ limit) ⊎ (limit < n)
small_or_large n limit =
    elim (cases_order n limit) [
      | inl same ↦ inl (omega arith)
      | inr (inl less) ↦ inl (omega arith)
      | inr (inr more) ↦ inr more
    ]

some_table : (some : TableOrFault) (limit : ℕ) (file : Option (List ℕ)) (schema : SchemaOf) → HasOne limit file schema
some_table some limit None schema = inr (file_missing, refl)
some_table some limit (Some bytes) schema =
    elim (small_or_large (length bytes) limit) [ inl small ↦ of_small some limit schema bytes small | inr large ↦ inr (file_too_large, (bytes, refl, large)) ]

-- tables of schemas, or the first that is refused
some_tables : (some : TableOrFault) (limit : ℕ) (files : List FileOf) (schemas : List SchemaOf)
    → ((tables : List TableOf) × HaveTables limit files schemas tables) ⊎ ((url : List ℕ) × (cause : TableCause) × IsFirstBadTable limit files schemas url cause)
some_tables some limit files [] = inl ([], tt)
some_tables some limit files (schema ∷ schemas) =
    elim (some_table some limit (file_named schema.url files) schema) [
      | inl here ↦
          elim (some_tables some limit files schemas) [
            | inl rest ↦ inl (here.0 ∷ rest.0, (here.1, rest.1))
            | inr later ↦ inr (later.0, later.1, inr (here.0, here.1, later.2))
          ]
      | inr bad ↦ inr (schema.url, bad.0, inl (refl, bad.1))
    ]

of_schemas : (some : TableOrFault) (folder : FolderOf) (schemas : List SchemaOf) → schemas_in folder ≡ Some (Ok schemas) → ((catalog : CatalogOf) × Means folder catalog) ⊎ ((cause : LoadCause) × IsRefused folder cause)
of_schemas some folder schemas e =
    elim (some_tables some folder.limits.file folder.files schemas) [
      | inl all ↦ inl (record { limits = folder.limits; tables = all.0 }, record { schemas = schemas; read = e; tables = all.1; limits = refl })
      | inr bad ↦ inr (bad_table bad.0 bad.1, (schemas, e, bad.2))
    ]

of_metadata : (some : TableOrFault) (folder : FolderOf) (meta : Option (List ℕ)) (says : Option (Result (List SchemaOf) MetaCause)) → folder.meta ≡ meta → option_map (schemas_of folder.limits) meta ≡ says
    → ((catalog : CatalogOf) × Means folder catalog) ⊎ ((cause : LoadCause) × IsRefused folder cause)
of_metadata some folder None says m e = inr (no_metadata, m)
of_metadata some folder (Some bytes) (Some (Ok schemas)) m e = of_schemas some folder schemas (ap (option_map (schemas_of folder.limits)) m ∙ e)
of_metadata some folder (Some bytes) (Some (Err cause)) m e = inr (bad_meta cause, ap (option_map (schemas_of folder.limits)) m ∙ e)
of_metadata some folder (Some bytes) None m e = cc

pub some_meaning : (some : TableOrFault) (folder : FolderOf) → ((catalog : CatalogOf) × Means folder catalog) ⊎ ((cause : LoadCause) × IsRefused folder cause)
some_meaning some folder = of_metadata some folder folder.meta (option_map (schemas_of folder.limits) folder.meta) refl refl
