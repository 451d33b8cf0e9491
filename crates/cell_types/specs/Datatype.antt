-- What a datatype accepts (Metadata Vocabulary for Tabular Data, section 5.11), whichever memory keeps its texts.
use Rattle.std.specs.Prelude.{ℕ, Bool, true, false, List, [], ◌∷◌, codes, string_bytes}
use Rattle.cell_types.specs.declared.datatype.BooleanForm.{BooleanForm}
use Rattle.cell_types.specs.declared.datatype.BooleanForm.TheVariants.{Standard, Texts}
use Rattle.cell_types.specs.declared.datatype.DateForm.{DateForm}
use Rattle.cell_types.specs.declared.datatype.DateForm.TheVariants.{YearMonthDay, Compact, DayMonthYear, MonthDayYear, Dotted}
use Rattle.cell_types.specs.declared.datatype.Datatype.{Datatype}
use Rattle.cell_types.specs.declared.datatype.Datatype.TheVariants.{Integer, Text, Boolean, Date, Decimal}

-- a boolean has the texts of true and the texts of false
pub data DatatypeOf : Type 0 where
  integer : DatatypeOf
  text : DatatypeOf
  boolean : List (List ℕ) → List (List ℕ) → DatatypeOf
  date : DateForm → DatatypeOf
  decimal : DatatypeOf

-- without a format `true` and `1`, `false` and `0`; with a format `T|F` those two texts alone
abbrev pub boolean_view : BooleanForm → DatatypeOf
boolean_view Standard = boolean (codes "true" ∷ codes "1" ∷ []) (codes "false" ∷ codes "0" ∷ [])
boolean_view (Texts of_true of_false) = boolean (string_bytes of_true ∷ []) (string_bytes of_false ∷ [])

abbrev pub datatype_view : Datatype → DatatypeOf
datatype_view Integer = integer
datatype_view Text = text
datatype_view (Boolean form) = boolean_view form
datatype_view (Date form) = date form
datatype_view Decimal = decimal

abbrev pub is_text : DatatypeOf → Bool
is_text text = true
is_text _ = false

-- the pattern of a form, in the letters of Unicode Technical Standard 35
abbrev pub pattern_of : DateForm → List ℕ
pattern_of YearMonthDay = codes "yyyy-MM-dd"
pattern_of Compact = codes "yyyyMMdd"
pattern_of DayMonthYear = codes "dd/MM/yyyy"
pattern_of MonthDayYear = codes "MM/dd/yyyy"
pattern_of Dotted = codes "dd.MM.yyyy"
