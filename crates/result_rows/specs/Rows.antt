-- The rows of an answer (OData 4.01 Part 2, URL Conventions, section 4.3): names, the values under them row by row, and how many rows there are where that
-- was asked for.
use Rattle.std.specs.Prelude.{◌≡◌, ℕ, List, [], ◌∷◌, ◌++◌, Option, None, map}
use Rattle.std.specs.List.Sorted.{IsPermutation}
use Rattle.cell_types.specs.Value.{CellValue}
use Rattle.csvw_meta.specs.Schema.{SchemaOf}
use Rattle.table_store.specs.Table.{TableOf}
use Rattle.query_meaning.specs.Apply.{names_at, values_at}
use Rattle.query_meaning.specs.Meaning.{ResultOf, selected_names, selected_values, table_names}

abbrev pub RowsOf : Type 0
RowsOf = ResultOf

-- every row of a table, under the names of its columns
abbrev pub rows_of_table : TableOf → RowsOf
rows_of_table table = record { names = table_names table.schema; rows = table.rows; count = None }

-- a row of a table, in the columns that are selected
abbrev pub rows_of_row : SchemaOf → Option (List ℕ) → List CellValue → RowsOf
rows_of_row schema select values = record {
  names = selected_names select (table_names schema);
  rows = selected_values select values ∷ [];
  count = None;
}

-- rows under these names, of which these are the first
pub record BeginWith (rows : RowsOf) (names : List (List ℕ)) (first : List (List CellValue)) : Type 0 where
  pub names_are : rows.names ≡ names
  pub rest : List (List CellValue)
  pub rows_are : rows.rows ≡ first ++ rest

-- the same rows under the same names, in another order
pub record AreReordered (old new : RowsOf) : Type 0 where
  pub names : new.names ≡ old.names
  pub moved : IsPermutation old.rows new.rows

-- rows in their order, of which the first `taken` were taken, and as they stood before they were put in order
pub record OrderedOf : Type 0 where
  pub stored : RowsOf
  pub rows : RowsOf
  pub taken : ℕ

-- the columns of rows that have these places
abbrev pub columns_of : List ℕ → RowsOf → RowsOf
columns_of places rows = record {
  names = names_at places rows.names;
  rows = map (values_at places) rows.rows;
  count = rows.count;
}

-- rows in their order, none of which was taken, with only the columns that have these places
pub record ShowsColumns (places : List ℕ) (old new : OrderedOf) : Type 0 where
  pub rows_are : new.rows ≡ columns_of places old.rows
  pub untaken : new.taken ≡ 0
