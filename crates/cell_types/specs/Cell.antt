-- How a column reads its cells (Model for Tabular Data and Metadata on the Web, section 6.4).
use Rattle.std.specs.Prelude.{◌≡◌, ◌≢◌, ℕ, Bool, false, List, ◌==◌, ◌<◌, length, if◌then◌else◌, Result, Ok, Err}
use Rattle.std.specs.List.{list_any}
use Rattle.std.specs.Str.{bytes_eq}
use Rattle.cell_types.specs.declared.fault.CellFault.{CellFault}
use Rattle.cell_types.specs.declared.fault.CellFault.TheVariants.{Missing}
use Rattle.cell_types.specs.declared.value.Value.{Value}
use Rattle.cell_types.specs.Column.{ColumnOf}
use Rattle.cell_types.specs.Datatype as datatype
use Rattle.cell_types.specs.Datatype.{DatatypeOf}
use Rattle.cell_types.specs.Value.{CellValue, null, text, value_view}
use Rattle.cell_types.specs.WhiteSpace.{normal_text}
use Rattle.cell_types.specs.Integer.{integer_of}
use Rattle.cell_types.specs.Boolean.{boolean_of}
use Rattle.cell_types.specs.Date.{date_of}
use Rattle.cell_types.specs.Decimal.{decimal_of}

-- the text of a cell that a datatype reads: of `string` as it stands, else normalized
abbrev pub content_of : DatatypeOf → List ℕ → List ℕ
content_of datatype.text bytes = bytes
content_of _ bytes = normal_text bytes

-- the default takes the place of an empty text
abbrev pub text_or_default : ColumnOf → List ℕ → List ℕ
text_or_default column bytes = if length bytes == 0 then column.default else bytes

-- the text stands for null
abbrev pub is_null_text : ColumnOf → List ℕ → Bool
is_null_text column bytes = list_any (λ null_text. bytes_eq null_text bytes) column.nulls

-- what a datatype reads a text as
abbrev pub typed_value : DatatypeOf → List ℕ → Result CellValue CellFault
typed_value datatype.integer bytes = integer_of bytes
typed_value datatype.text bytes = Ok (text bytes)
typed_value (datatype.boolean of_true of_false) bytes = boolean_of of_true of_false bytes
typed_value (datatype.date form) bytes = date_of form bytes
typed_value datatype.decimal bytes = decimal_of bytes

-- what a null is: no value is missing where the column does not require one
abbrev pub null_reading : ColumnOf → Result CellValue CellFault
null_reading column = if column.required then Err Missing else Ok null

-- the value of a text that is normalized where it must be
abbrev pub content_value : ColumnOf → List ℕ → Result CellValue CellFault
content_value column bytes = let content = text_or_default column bytes in
    if is_null_text column content then null_reading column else typed_value column.datatype content

-- the value of a text in a column
abbrev pub value_of : ColumnOf → List ℕ → Result CellValue CellFault
value_of column bytes = content_value column (content_of column.datatype bytes)

-- a text says the value as it stands: it has no white space to normalize, no default takes its place, and it does not stand for null
abbrev pub SaysPlainly : ColumnOf → List ℕ → CellValue → Type 0
SaysPlainly column bytes value =
    (0 < length bytes) × (normal_text bytes ≡ bytes) × (is_null_text column bytes ≡ false) × (typed_value column.datatype bytes ≡ Ok value)

-- a text is copied: an empty `string` where a default that is neither empty nor null takes its place, and a text of another
-- datatype that is not normal
abbrev pub IsCopied : DatatypeOf → ColumnOf → List ℕ → Type 0
IsCopied datatype.text column bytes = (length bytes ≡ 0) × (0 < length column.default) × (is_null_text column column.default ≡ false)
IsCopied _ column bytes = normal_text bytes ≢ bytes

-- memory is needed for a text of a column only where it is copied
abbrev pub NeedsMemory : ColumnOf → List ℕ → Type 0
NeedsMemory column bytes = IsCopied column.datatype column bytes

-- a value that was read, or a fault
abbrev pub reading_view : Result Value CellFault → Result CellValue CellFault
reading_view (Ok value) = Ok (value_view value)
reading_view (Err fault) = Err fault
