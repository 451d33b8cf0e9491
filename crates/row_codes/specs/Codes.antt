-- Codes of rows by their values in some columns.
use Rattle.std.specs.Prelude.{◌≡◌, ◌++◌, ◌<◌, ◌≤◌, ◌+ℤ◌, ◌≤ℤ◌, ℕ, ℤ, pos, nat_eq, List, [], ◌∷◌, Option, None, Some, if◌then◌else◌, length, slice_index_or}
use Rattle.cell_types.specs.Value.{CellValue}
use Rattle.cell_types.specs.Rows.{value_at, values_at}
use Rattle.row_codes.specs.declared.codes.Codes.{Codes}
use Rattle.row_codes.specs.declared.codes.Span.{Span}
use Rattle.row_codes.specs.declared.codes.TheConstants.{MOST_CODES}

-- `rows` codes, each less than the count
pub record AreFewCodes (rows : ℕ) (made : Codes) : Type 0 where
  pub below : (i : ℕ) → i < rows → slice_index_or made.codes.items i 0 < made.count
  pub long : length made.codes.items ≡ rows
  pub few : made.count ≤ MOST_CODES

-- each row has a code, and a code stands for values: those that the row has
pub record HaveCodesOf (values_in : List CellValue → List CellValue) (rows : List (List CellValue)) (made : Codes) : Type 0 where
  pub are : AreFewCodes (length rows) made
  pub values_of : ℕ → List CellValue
  pub each : (i : ℕ) → i < length rows → values_in (slice_index_or rows i []) ≡ values_of (slice_index_or made.codes.items i 0)

-- and so it is for the values of some columns
abbrev pub HaveKeyCodes : List ℕ → List (List CellValue) → Codes → Type 0
HaveKeyCodes places rows made = HaveCodesOf (values_at places) rows made

-- the value of one column
abbrev pub value_alone : ℕ → List CellValue → List CellValue
value_alone place row = value_at row place ∷ []

-- values, and more of them
abbrev pub joined_values : (List CellValue → List CellValue) → (List CellValue → List CellValue) → List CellValue → List CellValue
joined_values f g row = f row ++ g row

-- as many codes on both sides
pub record MayJoinCodes (left right : Codes) : Type 0 where
  pub rows : ℕ
  pub left_are : AreFewCodes rows left
  pub right_are : AreFewCodes rows right

-- ---- codes of numbers

abbrev pub LiesIn : Span → ℤ → Type 0
LiesIn span n = (span.least ≤ℤ n) × (n ≤ℤ (span.least +ℤ pos span.last))

-- the number that a code stands for: so far above a least one, or null
abbrev pub number_of_code : ℤ → ℕ → ℕ → Option ℤ
number_of_code least null code = if nat_eq code null then None else Some (least +ℤ pos code)

-- the rows with these numbers have codes, each of which stands for one number of a column
pub record HaveNumberCodes (cells : List (Option ℤ)) (numbers : List ℕ) (made : Codes) : Type 0 where
  pub are : AreFewCodes (length numbers) made
  pub number_of : ℕ → Option ℤ
  pub each : (i : ℕ) → i < length numbers → slice_index_or cells (slice_index_or numbers i 0) None ≡ number_of (slice_index_or made.codes.items i 0)

-- or one code of a text
pub record HaveTextCodes (texts : List ℕ) (numbers : List ℕ) (made : Codes) : Type 0 where
  pub are : AreFewCodes (length numbers) made
  pub each : (i : ℕ) → i < length numbers → slice_index_or made.codes.items i 0 ≡ slice_index_or texts (slice_index_or numbers i 0) 0
