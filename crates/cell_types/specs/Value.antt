-- The value of a cell (Model for Tabular Data and Metadata on the Web, section 6.4), whichever memory keeps its text.
use Rattle.std.specs.Prelude.{ℕ, ℤ, List, Bool, true, false, ◌==◌, ◌&&◌}
use Rattle.std.specs.declared.cmp.Ordering.{Ordering}
use Rattle.std.specs.Bool.{beq}
use Rattle.std.specs.Cmp.Lexicographic.{slice_cmp}
use Rattle.std.specs.Cow.{cow_str_bytes}
use Rattle.std.specs.Ordering.{int_eq, int_cmp, nat_cmp, bool_cmp, ordering_then}
use Rattle.std.specs.Str.{bytes_eq}
use Rattle.cell_types.specs.declared.value.Value.{Value}
use Rattle.cell_types.specs.declared.value.Value.TheVariants.{Null, Int, Text, Bool as Truth, Date, Decimal}

-- a date has a year, a month and a day, a decimal its number of millionths
pub data CellValue : Type 0 where
  null : CellValue
  integer : ℤ → CellValue
  text : List ℕ → CellValue
  boolean : Bool → CellValue
  date : ℤ → ℕ → ℕ → CellValue
  decimal : ℤ → CellValue

abbrev pub is_null : CellValue → Bool
is_null null = true
is_null _ = false

-- the cell is a text, so that a copy of it takes memory
abbrev pub IsTextCell : CellValue → Type 0
IsTextCell (text t) = Unit {0}
IsTextCell _ = ⊥

abbrev pub value_view : Value → CellValue
value_view Null = null
value_view (Int z) = integer z
value_view (Text t) = text (cow_str_bytes t)
value_view (Truth b) = boolean b
value_view (Date d) = date d.year d.month d.day
value_view (Decimal z) = decimal z

-- whether two values are one
unfoldable pub value_eq : CellValue → CellValue → Bool
value_eq null null = true
value_eq (integer a) (integer b) = int_eq a b
value_eq (text a) (text b) = bytes_eq a b
value_eq (boolean a) (boolean b) = beq a b
value_eq (date y m d) (date z n e) = int_eq y z && (m == n) && (d == e)
value_eq (decimal a) (decimal b) = int_eq a b
value_eq _ _ = false

-- the place of a value's kind
abbrev pub kind : CellValue → ℕ
kind null = 0
kind (integer _) = 1
kind (text _) = 2
kind (boolean _) = 3
kind (date _ _ _) = 4
kind (decimal _) = 5

-- null before all values, then values by their kinds; of one kind numbers by size, texts by code point (which is by byte in
-- UTF-8), false before true, dates by year, month and day
unfoldable pub value_cmp : CellValue → CellValue → Ordering
value_cmp (integer a) (integer b) = int_cmp a b
value_cmp (text a) (text b) = slice_cmp nat_cmp a b
value_cmp (boolean a) (boolean b) = bool_cmp a b
value_cmp (date y m d) (date z n e) = ordering_then (int_cmp y z) (ordering_then (nat_cmp m n) (nat_cmp d e))
value_cmp (decimal a) (decimal b) = int_cmp a b
value_cmp a b = nat_cmp (kind a) (kind b)
