-- Rows of a table that are kept.
use Rattle.std.specs.Prelude.{◌≡◌, ◌<◌, ◌++◌, ℕ, IfSome, List, [], Option, Some, None, length, map, string_bytes}
use Rattle.std.specs.List.{All}
use Rattle.cell_types.specs.Value.{CellValue}
use Rattle.csvw_meta.specs.Schema.{SchemaOf}
use Rattle.odata_query.specs.Query.{optional_numbers}
use Rattle.row_columns.specs.Kinds.{kinds_of}
use Rattle.row_columns.specs.Picked.{kinds_at, numbered}
use Rattle.query_meaning.specs.Apply.{names_at}
use Rattle.query_meaning.specs.Meaning.{selected_names, table_names}
use Rattle.result_rows.specs.declared.kept.Kept.{Kept}
use Rattle.result_rows.specs.Rows.{RowsOf}
use Rattle.result_rows.specs.Selected.{selected_kinds, selected_rows}

-- the columns that are picked, if so, and the names of these
abbrev pub kept_places : Kept → Option (List ℕ)
kept_places kept = optional_numbers kept.places

abbrev pub kept_names : Kept → List (List ℕ)
kept_names kept = map string_bytes kept.names.items

-- they are such columns of a table
pub record AreKeptOf (kept : Kept) (schema : SchemaOf) : Type 0 where
  pub within : IfSome (kept_places kept) (All (λ place. place < length schema.columns))
  pub names_are : kept_names kept ≡ selected_names (kept_places kept) (table_names schema)
  pub kinds_are : kept.columns.kinds ≡ selected_kinds (kept_places kept) (kinds_of schema.columns)

-- no rows, in columns with these places of those that are kept
pub record ArePickedOf (kept : Kept) (places : List ℕ) (picked : Kept) : Type 0 where
  pub places_are : kept_places picked ≡ Some places
  pub names_are : kept_names picked ≡ names_at places (kept_names kept)
  pub kinds_are : picked.columns.kinds ≡ kinds_at places kept.columns.kinds
  pub rows_are : picked.columns.rows ≡ []

-- nothing is another but the rows
pub record HasSameColumns (old new : Kept) : Type 0 where
  pub places : new.places ≡ old.places
  pub names : new.names ≡ old.names
  pub kinds : new.columns.kinds ≡ old.columns.kinds

-- these rows are kept after the others
pub record HasKept (old new : Kept) (more : List (List CellValue)) : Type 0 where
  pub same : HasSameColumns old new
  pub rows : new.columns.rows ≡ old.columns.rows ++ more

-- of the others those with these numbers are left, in their order
pub record HasReduced (old new : Kept) (numbers : List ℕ) : Type 0 where
  pub same : HasSameColumns old new
  pub rows : new.columns.rows ≡ numbered numbers old.columns.rows

-- ---- columns that are shown of rows

-- they are a column for each name, and have the values that the rows have there
pub record AreShownOf (rows : List (List CellValue)) (shown : Kept) : Type 0 where
  pub width : length shown.columns.kinds ≡ length (kept_names shown)
  pub rows_are : shown.columns.rows ≡ selected_rows (kept_places shown) rows

abbrev pub shown_places : Option Kept → Option (List ℕ)
shown_places None = None
shown_places (Some shown) = kept_places shown

-- what is shown of rows
abbrev pub shown_of : RowsOf → Option Kept → RowsOf
shown_of rows None = rows
shown_of rows (Some shown) = record { names = kept_names shown; rows = shown.columns.rows; count = rows.count }
