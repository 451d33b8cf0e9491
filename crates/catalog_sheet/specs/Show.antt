-- What is shown of tables: for each its name, its number of rows and its number of columns, and for each column what the service understands of it.
use Rattle.std.specs.Prelude.{ℕ, ◌+◌, ◌==◌, Bool, List, [], ◌∷◌, ◌++◌, length, codes, Option, None, Some, if◌then◌else◌}
use Rattle.std.specs.Fmt.{decimal as number_text}
use Rattle.std.specs.List.{flat_map, list_any}
use Rattle.block_summary.specs.Ranges.{RangeOf, column_of, range_of}
use Rattle.cell_types.specs.Column.{ColumnOf}
use Rattle.cell_types.specs.Datatype.{DatatypeOf}
use Rattle.cell_types.specs.Value.{CellValue}
use Rattle.datatype_texts.specs.Names.{bar, name_of_datatype, format_of_datatype, FormatOf, absent, pattern, texts}
use Rattle.table_store.specs.Table.{TableOf}
use Rattle.diagnostics.specs.Text.{quoted_text}
use Rattle.diagnostics.specs.Value.{shown_value}

-- a format after a space, where there is one; two texts stand in double quotes
abbrev pub format_shown : FormatOf → List ℕ
format_shown absent = []
format_shown (pattern form) = codes " " ++ form
format_shown (texts of_true of_false) = codes " " ++ quoted_text (of_true ++ bar ∷ of_false)

-- a datatype by its name, with its format where it has one
abbrev pub datatype_text : DatatypeOf → List ℕ
datatype_text d = name_of_datatype d ++ format_shown (format_of_datatype d)

-- a bound after its name, where there is one
abbrev pub bound_text : List ℕ → Option CellValue → List ℕ
bound_text name None = []
bound_text name (Some value) = name ++ shown_value value

-- its front: the name, the datatype, and how many cells are null
abbrev pub column_front : ColumnOf → ℕ → List ℕ
column_front column nulls = codes "  " ++ column.name ++ codes " " ++ datatype_text column.datatype ++ codes ", nulls " ++ number_text nulls

-- the line of a column whose cells have that range: their nulls are counted, and the bounds are the least and the greatest of those that are none
abbrev pub column_line : ColumnOf → RangeOf → Bool → List ℕ
column_line column range is_key =
    column_front column range.null_count
    ++ bound_text (codes ", least ") range.least ++ bound_text (codes ", greatest ") range.greatest
    ++ (if is_key then codes ", key\n" else codes "\n")

-- a column is one of the key
abbrev pub is_of_key : List ℕ → ℕ → Bool
is_of_key key col = list_any (λ place. place == col) key

-- the lines of the columns of a table from one on, by the cells of all rows
abbrev pub column_lines : TableOf → ℕ → List ColumnOf → List ℕ
column_lines table col [] = []
column_lines table col (column ∷ columns) =
    column_line column (range_of (column_of table.rows col)) (is_of_key table.schema.key col) ++ column_lines table (col + 1) columns

-- the line of a table
abbrev pub shown_table : TableOf → List ℕ
shown_table table =
    table.schema.name ++ codes " " ++ number_text (length table.rows) ++ codes " " ++ number_text (length table.schema.columns) ++ codes "\n"

abbrev pub table_text : TableOf → List ℕ
table_text table = shown_table table ++ column_lines table 0 table.schema.columns

-- the lines of all tables, in their order
abbrev pub tables_text : List TableOf → List ℕ
tables_text tables = flat_map table_text tables
