-- Keys and files with what is found in them, worked out by hand (Model for Tabular Data and Metadata on the Web, section 4).
use Rattle.std.specs.Prelude.{◌≡◌, ◌≤◌, ℕ, List, [], ◌∷◌, codes, length, map, None, Some}
use Rattle.csv_grammar.specs.Files.{IsTable}
use Rattle.cell_types.specs.declared.fault.CellFault.TheVariants.{NotInteger}
use Rattle.csvw_meta.specs.Schema.{SchemaOf}
use Rattle.file_cells.specs.Worked.{city_columns, fields}
use Rattle.table_store.specs.Catalog.{HasTableCause}
use Rattle.table_store.specs.Fault.{TableCause, bad_cell, key_null, key_twice}
use Rattle.table_store.specs.File.{FileOf, file_named}

-- the columns of an integer and of a text, of which the first is the key
abbrev pub city_schema : SchemaOf
city_schema = record { url = codes "cities.csv"; name = codes "cities"; columns = city_columns; key = 0 ∷ [] }

-- each file of at most the limit that is this header and these records is refused for the cause
abbrev pub IsRefusedFor : TableCause → List (List ℕ) → Type 0
IsRefusedFor cause ids = (bytes : List ℕ) (limit : ℕ) → length bytes ≤ limit
    → IsTable bytes (fields (codes "Id" ∷ codes "Name" ∷ [])) (map (λ id. fields (id ∷ codes "Oslo" ∷ [])) ids)
    → HasTableCause limit (Some bytes) city_schema cause

abbrev pub file : List ℕ → List ℕ → FileOf
file name bytes = record { name = name; bytes = bytes }

pub record WorkedTables : Type 0 where
  -- a cell without a value comes before a key, and a null in a key before a key that is there twice, wherever they are
  pub cell_before_key : IsRefusedFor (bad_cell 3 0 NotInteger) (codes "1" ∷ codes "" ∷ codes "1" ∷ codes "x" ∷ [])
  pub null_before_twice : IsRefusedFor (key_null 2) (codes "1" ∷ codes "01" ∷ codes "" ∷ codes "" ∷ [])
  -- the row that is reported has the key of an earlier one
  pub twice : IsRefusedFor (key_twice 2) (codes "1" ∷ codes "2" ∷ codes "+1" ∷ codes "2" ∷ [])
  -- the first file of a name
  pub first_file : file_named (codes "a.csv") (file (codes "b.csv") (codes "B") ∷ file (codes "a.csv") (codes "1") ∷ file (codes "a.csv") (codes "2") ∷ []) ≡ Some (codes "1")
  pub no_file : file_named (codes "A.csv") (file (codes "a.csv") (codes "1") ∷ []) ≡ None
