-- The kinds of values that a column keeps (Metadata Vocabulary for Tabular Data, section 5.11).
use Rattle.std.specs.Prelude.{List, map}
use Rattle.cell_types.specs.Column.{ColumnOf}
use Rattle.cell_types.specs.Kind.{kind_of}
use Rattle.cell_types.specs.declared.kind.ColumnKind.{ColumnKind}

-- a column of any has values of all kinds beside one another
pub data KindOf : Type 0 where
  of_kind : ColumnKind → KindOf
  any : KindOf

abbrev pub kinds_of : List ColumnOf → List KindOf
kinds_of columns = map (λ column. of_kind (kind_of column.datatype)) columns
