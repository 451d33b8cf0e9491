-- What holds of every folder, every header and all rows.
use Rattle.std.specs.Prelude.{◌≡◌, ◌↔◌, ◌<◌, ◌⊎◌, ℕ, false, List, map, Option, None, Some, Result, Ok, Err, IsTrue, All, option_and_then, slice_get}
use Rattle.std.specs.List.{AllZip, zip}
use Rattle.csv_grammar.specs.Records.{Field, content}
use Rattle.cell_types.specs.declared.fault.CellFault.{CellFault}
use Rattle.cell_types.specs.Value.{CellValue}
use Rattle.cell_types.specs.Column.{ColumnOf}
use Rattle.cell_types.specs.Cell.{value_of}
use Rattle.key_index.specs.Laws.{AreKeys}
use Rattle.table_store.specs.Table.{TableOf, is_called, keys_of, mismatch_from, rows_from}
use Rattle.table_store.specs.Fault.{LoadCause}
use Rattle.table_store.specs.Catalog.{FolderOf, CatalogOf, schemas_in, Means, IsRefused}

-- a folder has one meaning or one cause, and not both
pub record OneMeaning : Type 0 where
  pub some : (folder : FolderOf) → ((catalog : CatalogOf) × Means folder catalog) ⊎ ((cause : LoadCause) × IsRefused folder cause)
  pub meaning : (folder : FolderOf) (c d : CatalogOf) → Means folder c → Means folder d → c ≡ d
  pub cause : (folder : FolderOf) (a b : LoadCause) → IsRefused folder a → IsRefused folder b → a ≡ b
  pub not_both : (folder : FolderOf) (catalog : CatalogOf) (cause : LoadCause) → Means folder catalog → ¬ (IsRefused folder cause)

-- the schemas of the tables are those that the metadata says, in its order
abbrev pub SchemasOfTables : Type 0
SchemasOfTables = (folder : FolderOf) (catalog : CatalogOf) → Means folder catalog → schemas_in folder ≡ Some (Ok (map (λ (table : TableOf). table.schema) catalog.tables))

-- in the keys of the rows of each table no part is null, no two rows have one key, and the row that has a key is the one whose key it is
abbrev pub KeysOfTables : Type 0
KeysOfTables = (folder : FolderOf) (catalog : CatalogOf) → Means folder catalog → All (λ (table : TableOf). AreKeys (keys_of table)) catalog.tables

-- each column has a header cell, each header cell a column, and the cell is one that the column may have
abbrev pub AreCalledSo : List ColumnOf → List Field → Type 0
AreCalledSo columns header = AllZip (λ (column : ColumnOf) (field : Field). IsTrue (is_called column (content field))) columns header

-- a column and a header cell do not match, or one of them is missing
abbrev pub Differ : Option ColumnOf → Option Field → Type 0
Differ None None = ⊥
Differ None (Some field) = Unit {0}
Differ (Some column) None = Unit {0}
Differ (Some column) (Some field) = is_called column (content field) ≡ false

abbrev pub DifferAt : List ColumnOf → List Field → ℕ → Type 0
DifferAt columns header place = Differ (slice_get columns place) (slice_get header place)

-- so it is at that place, and at none before it
pub record DifferFirstAt (columns : List ColumnOf) (header : List Field) (place : ℕ) : Type 0 where
  pub here : DifferAt columns header place
  pub before : (earlier : ℕ) → earlier < place → ¬ (DifferAt columns header earlier)

-- a header has no mismatch just where it is called as the columns are, and a place is that of its mismatch just where they differ there first
pub record FirstMismatchIsFirst : Type 0 where
  pub none : (columns : List ColumnOf) (header : List Field) → (mismatch_from 0 columns header ≡ None) ↔ AreCalledSo columns header
  pub some : (columns : List ColumnOf) (header : List Field) (place : ℕ) → (mismatch_from 0 columns header ≡ Some place) ↔ DifferFirstAt columns header place

-- what the fields of a record say, each in its column: a value, or why there is none
abbrev pub readings_of : List ColumnOf → List Field → List (Result CellValue CellFault)
readings_of columns fields = map (λ (cell : ColumnOf × Field). value_of cell.0 (content cell.1)) (zip columns fields)

-- what the cell of a row and a column says, where there is one
abbrev pub reading_at : List ColumnOf → List (List Field) → ℕ → ℕ → Option (Result CellValue CellFault)
reading_at columns records row col = option_and_then (λ (fields : List Field). slice_get (readings_of columns fields) col) (slice_get records row)

-- each field of a record says a value, and these are the values
abbrev pub AreReadingsOf : List ColumnOf → List Field → List CellValue → Type 0
AreReadingsOf columns fields values = readings_of columns fields ≡ map Ok values

-- a cell says no value, for that reason, and each cell before it, row by row, says one
pub record IsFirstBadCell (columns : List ColumnOf) (records : List (List Field)) (row col : ℕ) (fault : CellFault) : Type 0 where
  pub here : reading_at columns records row col ≡ Some (Err fault)
  pub before : (r c : ℕ) (said : Result CellValue CellFault) → (r < row) ⊎ ((r ≡ row) × (c < col))
      → reading_at columns records r c ≡ Some said → (value : CellValue) × (said ≡ Ok value)

-- records have rows just where each cell says the value of its place, and a cell is the bad one just where it is the first that says none
pub record FirstBadCellIsFirst : Type 0 where
  pub values : (columns : List ColumnOf) (records : List (List Field)) (rows : List (List CellValue))
      → (rows_from 0 columns records ≡ Ok rows) ↔ AllZip (AreReadingsOf columns) records rows
  pub fault : (columns : List ColumnOf) (records : List (List Field)) (row col : ℕ) (fault : CellFault)
      → (rows_from 0 columns records ≡ Err (row, col, fault)) ↔ IsFirstBadCell columns records row col fault
