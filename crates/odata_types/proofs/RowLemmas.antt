-- The columns of a table are an input, and its rows are rows of that input.
use Rattle.std.proofs.Common.{◌≡◌, ℕ, ◌≤◌, true, ◌&&◌, List, [], ◌∷◌, map, arith}
use Rattle.std.specs.Prelude.{ℤ, pos, unsigned_abs, FitsSigned, nat_le}
use Rattle.std.specs.Int.{w64, is_in_range}
use Rattle.std.proofs.lemmas.Bool.{and_parts, leb-true}
use Rattle.std.proofs.lemmas.Int.{ints}
use Rattle.jiff_core.specs.Calendar.{days_in_month}
use Rattle.cell_types.specs.Kind.{kind_of}
use Rattle.cell_types.specs.Column.{ColumnOf}
use Rattle.cell_types.specs.Datatype as datatype
use Rattle.cell_types.specs.Datatype.{DatatypeOf}
use Rattle.cell_types.specs.Date.{is_date}
use Rattle.cell_types.specs.Laws.{IsOfColumn, IsOfDatatype}
use Rattle.cell_types.specs.Value.{CellValue, null, integer, text, boolean, date, decimal}
use Rattle.csvw_meta.specs.Schema.{SchemaOf}
use Rattle.odata_types.specs.declared.types.TheConstants.{COLUMN_SIZE, MOST_SIZE}
use Rattle.odata_types.specs.Schema.{input_of, inputs_of}
use Rattle.odata_types.specs.Input.{IsDay, IsInput, IsOfKind, IsRowOf, IsShortValue, IsTableRow}

upper : (low high n : ℕ) → is_in_range low high n ≡ true → n ≤ high
upper low high n e = leb-true n high (and_parts (nat_le low n) (nat_le n high) e).1

pub month_days : (y : ℤ) (m : ℕ) → days_in_month y m ≤ 31
month_days y m = grind arith

day_of : (y m d : ℕ) → is_date y m d ≡ true → IsDay y m d
day_of y m d e =
    let first = is_in_range 1 9_999 y in
    let second = is_in_range 1 12 m in
    let third = is_in_range 1 (days_in_month (pos y) m) d in
    let both : (first && second) ≡ true = (and_parts (first && second) third e).0 in
    let last : d ≤ days_in_month (pos y) m = upper 1 (days_in_month (pos y) m) d (and_parts (first && second) third e).1 in
    (upper 1 9_999 y (and_parts first second both).0, upper 1 12 m (and_parts first second both).1, omega (arith, last, month_days (pos y) m))

small : (z : ℤ) → FitsSigned w64 z → unsigned_abs z ≤ COLUMN_SIZE
small z h = omega (arith, ints)

typed_value : (t : DatatypeOf) (v : CellValue) → IsOfDatatype t v → IsShortValue v → IsOfKind (kind_of t) COLUMN_SIZE v
typed_value t null h s = tt
typed_value datatype.integer (integer z) h s = small z h
typed_value datatype.text (text x) h s = s
typed_value (datatype.boolean t f) (boolean b) h s = tt
typed_value (datatype.date form) (date y m d) h s = rw h.1 (day_of h.0 m d h.2)
typed_value datatype.decimal (decimal z) h s = small z h
typed_value t v h s = absurd h

column_value : (c : ColumnOf) (v : CellValue) → IsOfColumn c v → IsShortValue v → IsOfKind (kind_of c.datatype) COLUMN_SIZE v
column_value c null h s = tt
column_value c (integer z) h s = typed_value c.datatype (integer z) h s
column_value c (text x) h s = typed_value c.datatype (text x) h s
column_value c (boolean b) h s = typed_value c.datatype (boolean b) h s
column_value c (date y m d) h s = typed_value c.datatype (date y m d) h s
column_value c (decimal z) h s = typed_value c.datatype (decimal z) h s

table_row : (cs : List ColumnOf) (row : List CellValue) → IsTableRow cs row → IsRowOf (map input_of cs) row
table_row [] [] h = tt
table_row [] (v ∷ vs) h = absurd h
table_row (c ∷ cs) [] h = absurd h
table_row (c ∷ cs) (v ∷ vs) h = (column_value c v h.0 h.1, table_row cs vs h.2)

bounded : COLUMN_SIZE ≤ MOST_SIZE
bounded = omega arith

table_columns : (cs : List ColumnOf) → IsInput (map input_of cs)
table_columns [] = tt
table_columns (c ∷ cs) = (bounded, table_columns cs)

pub table_input : (schema : SchemaOf) → IsInput (inputs_of schema)
table_input schema = table_columns schema.columns

pub table_rows : (schema : SchemaOf) (row : List CellValue) → IsTableRow schema.columns row → IsRowOf (inputs_of schema) row
table_rows schema row h = table_row schema.columns row h
