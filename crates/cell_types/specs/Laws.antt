-- What holds of all texts and values.
use Rattle.std.specs.Prelude.{◌≡◌, ◌≢◌, ◌↔◌, ℕ, ℤ, List, ◌+◌, ◌<◌, true, false, pos, IsTrue, Ok, Err, Option, None, Some, length, slice_index}
use Rattle.std.specs.Cmp.{IsTotalOrder}
use Rattle.std.specs.Cmp.Lexicographic.{slice_cmp}
use Rattle.std.specs.Fmt.{signed_decimal}
use Rattle.std.specs.Int.{w64}
use Rattle.std.specs.Int.RustNames.{FitsSigned}
use Rattle.std.specs.Ordering.{int_cmp, nat_cmp}
use Rattle.std.specs.Str.{IsUtf8, chars}
use Rattle.std.specs.declared.cmp.Ordering.TheVariants.{Equal, Greater, Less}
use Rattle.jiff_core.specs.Calendar.{IsDate}
use Rattle.cell_types.specs.declared.fault.CellFault.TheVariants.{NoMemory}
use Rattle.cell_types.specs.declared.datatype.DateForm.{DateForm}
use Rattle.cell_types.specs.declared.kind.ColumnKind.{ColumnKind}
use Rattle.cell_types.specs.declared.kind.ColumnKind.TheVariants.{Number}
use Rattle.cell_types.specs.declared.kind.NumberKind.{NumberKind}
use Rattle.cell_types.specs.Cell.{value_of}
use Rattle.cell_types.specs.Column.{ColumnOf, takes_all_texts}
use Rattle.cell_types.specs.Datatype as datatype
use Rattle.cell_types.specs.Datatype.{DatatypeOf}
use Rattle.cell_types.specs.Date.{IsDateText, date_of, date_text, is_date}
use Rattle.cell_types.specs.Decimal.{decimal_of, decimal_text}
use Rattle.cell_types.specs.Integer.{integer_of}
use Rattle.cell_types.specs.Kind.{is_of_kind, number_cell, number_in, number_of, typed_cell, HasRealDay, IsNumberOf}
use Rattle.cell_types.specs.Value.{CellValue, boolean, date, decimal, integer, is_null, null, text, value_cmp, value_eq}
use Rattle.cell_types.specs.WhiteSpace.{is_white, normal_text, words}

-- a text in a column has a value or one of seven causes: out of memory is none of them
abbrev pub MemoryIsNoCause : Type 0
MemoryIsNoCause = (column : ColumnOf) (bytes : List ℕ) → value_of column bytes ≢ Err NoMemory

-- in a column of strings that may be null each text has a value
abbrev pub StringsHaveValues : Type 0
StringsHaveValues = (column : ColumnOf) (bytes : List ℕ) → takes_all_texts column ≡ true → (value : CellValue) × (value_of column bytes ≡ Ok value)

-- a normalized text has the same words; each of its white spaces is one space, and stands between two bytes that are none; to
-- normalize it again changes nothing
pub record NormalTexts : Type 0 where
  pub same : (bytes : List ℕ) → words (normal_text bytes) ≡ words bytes
  pub again : (bytes : List ℕ) → normal_text (normal_text bytes) ≡ normal_text bytes
  pub spaces : (bytes : List ℕ) (k : ℕ) → k < length (normal_text bytes) → is_white (slice_index (normal_text bytes) k) ≡ true
      → (slice_index (normal_text bytes) k ≡ 32) × (0 < k) × (k + 1 < length (normal_text bytes)) × (is_white (slice_index (normal_text bytes) (k + 1)) ≡ false)

-- the text of each integer of 64 signed bits reads as that integer, and no text as another one
pub record IntegersReadBack : Type 0 where
  pub back : (z : ℤ) → FitsSigned w64 z → integer_of (signed_decimal z) ≡ Ok (integer z)
  pub only : (bytes : List ℕ) (v : CellValue) → integer_of bytes ≡ Ok v → (z : ℤ) × FitsSigned w64 z × (v ≡ integer z)

-- a value of a datatype: an integer of 64 signed bits, a text, a boolean, a day of the calendar in the years 1 to 9999, millionths of
-- 64 signed bits
abbrev pub IsOfDatatype : DatatypeOf → CellValue → Type 0
IsOfDatatype datatype.integer (integer z) = FitsSigned w64 z
IsOfDatatype datatype.text (text t) = Unit {0}
IsOfDatatype (datatype.boolean of_true of_false) (boolean b) = Unit {0}
IsOfDatatype (datatype.date form) (date year month day) = (y : ℕ) × (year ≡ pos y) × (is_date y month day ≡ true)
IsOfDatatype datatype.decimal (decimal z) = FitsSigned w64 z
IsOfDatatype _ _ = ⊥

-- a value that a column may have: null where it does not require one, or a value of its datatype
abbrev pub IsOfColumn : ColumnOf → CellValue → Type 0
IsOfColumn column null = column.required ≡ false
IsOfColumn column value = IsOfDatatype column.datatype value

-- in each form a text reads as a date just where it is that date's text; the dates are the calendar's days of the years 1 to 9999, and so are those that a column may have
pub record DatesReadBack : Type 0 where
  pub back : (form : DateForm) (y m d : ℕ) → is_date y m d ≡ true → date_of form (date_text form y m d) ≡ Ok (date (pos y) m d)
  pub only : (form : DateForm) (bytes : List ℕ) (v : CellValue) → date_of form bytes ≡ Ok v → (y : ℕ) × (m : ℕ) × (d : ℕ) × IsDateText form bytes y m d × (v ≡ date (pos y) m d)
  pub calendar : (y m d : ℕ) → (is_date y m d ≡ true) ↔ ((0 < y) × IsDate (pos y) (pos m) (pos d))
  pub columns : (column : ColumnOf) (value : CellValue) → IsOfColumn column value → HasRealDay value

-- the text of each number of millionths of 64 signed bits reads as that decimal, and no text as another one
pub record DecimalsReadBack : Type 0 where
  pub back : (z : ℤ) → FitsSigned w64 z → decimal_of (decimal_text z) ≡ Ok (decimal z)
  pub only : (bytes : List ℕ) (v : CellValue) → decimal_of bytes ≡ Ok v → (z : ℤ) × FitsSigned w64 z × (v ≡ decimal z)

-- a value of the kind that has this number, or null where there is none; where it is a day, the calendar has it
pub record HasNumber (kind : NumberKind) (number : Option ℤ) (value : CellValue) : Type 0 where
  pub kind_is : is_of_kind (Number kind) value ≡ true
  pub number_is : number_in kind value ≡ number
  pub day : HasRealDay value

-- a number stands for a value of its kind, and is the number of that value; of two numbers of one kind the lesser stands for the lesser value; a value for which a number
-- stands is the value of that number; of a kind null alone has no number; the value that is given for a number has that number
pub record NumbersStandForCells : Type 0 where
  pub value : (kind : NumberKind) (number : ℤ) → is_null (typed_cell kind number) ≡ false
  pub of_kind : (kind : NumberKind) (number : ℤ) → is_of_kind (Number kind) (typed_cell kind number) ≡ true
  pub back : (kind : NumberKind) (number : ℤ) → IsNumberOf kind number → number_of (typed_cell kind number) ≡ Some number
  pub order : (kind : NumberKind) (a b : ℤ) → IsNumberOf kind a → IsNumberOf kind b → value_cmp (typed_cell kind a) (typed_cell kind b) ≡ int_cmp a b
  pub cell : (kind : NumberKind) (value : CellValue) (number : ℤ) → HasRealDay value → number_in kind value ≡ Some number → IsNumberOf kind number × (value ≡ typed_cell kind number)
  pub no_number : (kind : NumberKind) → number_in kind null ≡ None
  pub only_null : (kind : NumberKind) (value : CellValue) → is_of_kind (Number kind) value ≡ true → number_in kind value ≡ None → value ≡ null
  pub given : (kind : NumberKind) (number : Option ℤ) (value : CellValue) → number_cell kind number ≡ Some value → HasNumber kind number value

-- values are one where they are equal, the order of values is total, null comes before all others, and between two values of a kind are values of that kind
-- alone
pub record ValuesAreOrdered : Type 0 where
  pub equal : (a b : CellValue) → IsTrue (value_eq a b) ↔ (a ≡ b)
  pub total : IsTotalOrder value_cmp
  pub same : (a b : CellValue) → value_cmp a b ≡ Equal → a ≡ b
  pub null_first : (a : CellValue) → a ≢ null → value_cmp null a ≡ Less
  pub together : (kind : ColumnKind) (a b value : CellValue) → is_of_kind kind a ≡ true → is_of_kind kind b ≡ true → is_null a ≡ false
      → value_cmp a value ≢ Greater → value_cmp value b ≢ Greater → is_of_kind kind value ≡ true

-- texts are in the order of their code points: the first character in which two texts differ decides, and their bytes in UTF-8 tell
-- no other order
abbrev pub TextsAreInOrder : Type 0
TextsAreInOrder = (s t : List ℕ) → IsUtf8 s → IsUtf8 t → value_cmp (text s) (text t) ≡ slice_cmp nat_cmp (chars s) (chars t)

-- the value of each text in a column is one that the column may have
abbrev pub ValuesFitColumns : Type 0
ValuesFitColumns = (column : ColumnOf) (bytes : List ℕ) (value : CellValue) → value_of column bytes ≡ Ok value → IsOfColumn column value
