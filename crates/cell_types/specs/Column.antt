-- What a column says of its cells (Metadata Vocabulary for Tabular Data, sections 5.6 and 5.7).
use Rattle.std.specs.Prelude.{ℕ, Bool, ◌&&◌, not, List, map, string_bytes}
use Rattle.cell_types.specs.declared.column.Column.{Column}
use Rattle.cell_types.specs.Datatype.{DatatypeOf, datatype_view, is_text}

pub record ColumnOf : Type 0 where
  pub name : List ℕ
  pub titles : List (List ℕ)
  pub datatype : DatatypeOf
  pub nulls : List (List ℕ)
  pub default : List ℕ
  pub required : Bool

abbrev pub column_view : Column → ColumnOf
column_view column = record {
  name = string_bytes column.name;
  titles = map string_bytes column.titles.items;
  datatype = datatype_view column.datatype;
  nulls = map string_bytes column.nulls.items;
  default = string_bytes column.default;
  required = column.required;
}

-- each text has a value: it is read as it stands, and may be null
abbrev pub takes_all_texts : ColumnOf → Bool
takes_all_texts column = is_text column.datatype && not column.required
