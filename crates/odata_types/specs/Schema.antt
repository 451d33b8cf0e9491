-- The columns of a table, as those that an expression may name.
use Rattle.std.specs.Prelude.{List, map}
use Rattle.cell_types.specs.Column.{ColumnOf}
use Rattle.cell_types.specs.Kind.{kind_of}
use Rattle.csvw_meta.specs.Schema.{SchemaOf}
use Rattle.odata_types.specs.declared.types.TheConstants.{COLUMN_SIZE}
use Rattle.odata_types.specs.Columns.{InputOf, of_size}

-- numbers have 64 signed bits
abbrev pub input_of : ColumnOf → InputOf
input_of c = record { name = c.name; column_type = of_size (kind_of c.datatype) COLUMN_SIZE }

-- the columns of a table
abbrev pub inputs_of : SchemaOf → List InputOf
inputs_of schema = map input_of schema.columns
