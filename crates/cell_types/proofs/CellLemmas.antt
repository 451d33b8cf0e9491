-- What a definition of cells answers, and what it never does.
use Rattle.std.proofs.Common.{◌≡◌, ◌≢◌, ◌&&◌, not, ℕ, pos, List, Bool, true, false, cond, Ok, Err, Result, refl, subst, sym}
use Rattle.std.specs.List.{list_any}
use Rattle.std.specs.Str.{bytes_eq}
use Rattle.std.specs.Str.Parse.{signed_digits_value}
use Rattle.std.proofs.lemmas.Bool.{cond_both}
use Rattle.cell_types.specs.declared.fault.CellFault.{CellFault}
use Rattle.cell_types.specs.declared.fault.CellFault.TheVariants.{Missing, NoMemory, NotBoolean, NotDate, NotDecimal, NotInteger, OutOfRange, TooFine}
use Rattle.cell_types.specs.declared.datatype.DateForm.{DateForm}
use Rattle.cell_types.specs.Boolean.{boolean_of}
use Rattle.cell_types.specs.Cell.{content_of, content_value, is_null_text, null_reading, text_or_default, typed_value, value_of}
use Rattle.cell_types.specs.Column.{ColumnOf, takes_all_texts}
use Rattle.cell_types.specs.Datatype.{DatatypeOf, is_text, integer, text, boolean, date, decimal}
use Rattle.cell_types.specs.Date.{date_of, date_text, day_place, is_date, month_place, digits_number, year_place}
use Rattle.cell_types.specs.Decimal.{decimal_of, is_decimal, is_in_millionths, millionths}
use Rattle.cell_types.specs.Integer.{fits_64_bits, integer_of, is_integer}
use Rattle.cell_types.specs.Laws.{IsOfColumn, IsOfDatatype, ValuesFitColumns}
use Rattle.cell_types.specs.Value as value
use Rattle.cell_types.specs.Value.{CellValue}
use Rattle.cell_types.proofs.DateLemmas.{date_of-only}
use Rattle.cell_types.proofs.DecimalLemmas.{decimal_of-only}
use Rattle.cell_types.proofs.IntegerLemmas.{integer_of-only}

abbrev NeedsNone : Result CellValue CellFault → Type 0
NeedsNone r = r ≢ Err NoMemory

integer_of-memory : (bytes : List ℕ) → NeedsNone (integer_of bytes)
unfolding integer_of
integer_of-memory bytes =
    let number = signed_digits_value 10 bytes in
    cond_both (is_integer bytes) (cond (fits_64_bits number) (Ok (value.integer number)) (Err OutOfRange)) (Err NotInteger) NeedsNone
    (λ _. cond_both (fits_64_bits number) (Ok (value.integer number)) (Err OutOfRange) NeedsNone (λ _ e. cc) (λ _ e. cc))
    (λ _ e. cc)

boolean_of-memory : (ts fs : List (List ℕ)) (bytes : List ℕ) → NeedsNone (boolean_of ts fs bytes)
boolean_of-memory ts fs bytes =
    let is_false = list_any (λ other. bytes_eq other bytes) fs in
    cond_both (list_any (λ other. bytes_eq other bytes) ts) (Ok (value.boolean true)) (cond is_false (Ok (value.boolean false)) (Err NotBoolean)) NeedsNone
    (λ _ e. cc)
    (λ _. cond_both is_false (Ok (value.boolean false)) (Err NotBoolean) NeedsNone (λ _ e. cc) (λ _ e. cc))

date_of-memory : (form : DateForm) (bytes : List ℕ) → NeedsNone (date_of form bytes)
unfolding date_of
date_of-memory form bytes =
    let y = digits_number (year_place form) 4 bytes in
    let m = digits_number (month_place form) 2 bytes in
    let d = digits_number (day_place form) 2 bytes in
    cond_both (is_date y m d && bytes_eq bytes (date_text form y m d)) (Ok (value.date (pos y) m d)) (Err NotDate) NeedsNone (λ _ e. cc) (λ _ e. cc)

decimal_of-memory : (bytes : List ℕ) → NeedsNone (decimal_of bytes)
unfolding decimal_of
decimal_of-memory bytes =
    let number = millionths bytes in
    let in_range = cond (fits_64_bits number) (Ok (value.decimal number)) (Err OutOfRange) in
    cond_both (is_decimal bytes) (cond (is_in_millionths bytes) in_range (Err TooFine)) (Err NotDecimal) NeedsNone
    (λ _. cond_both (is_in_millionths bytes) in_range (Err TooFine) NeedsNone
    (λ _. cond_both (fits_64_bits number) (Ok (value.decimal number)) (Err OutOfRange) NeedsNone (λ _ e. cc) (λ _ e. cc))
    (λ _ e. cc))
    (λ _ e. cc)

typed_value-memory : (datatype : DatatypeOf) (bytes : List ℕ) → NeedsNone (typed_value datatype bytes)
typed_value-memory integer bytes = integer_of-memory bytes
typed_value-memory text bytes = λ e. cc
typed_value-memory (boolean ts fs) bytes = boolean_of-memory ts fs bytes
typed_value-memory (date form) bytes = date_of-memory form bytes
typed_value-memory decimal bytes = decimal_of-memory bytes

pub content_value-memory : (column : ColumnOf) (bytes : List ℕ) → NeedsNone (content_value column bytes)
content_value-memory column bytes =
    let content = text_or_default column bytes in
    cond_both (is_null_text column content) (null_reading column) (typed_value column.datatype content) NeedsNone
    (λ _. cond_both column.required (Err Missing) (Ok value.null) NeedsNone (λ _ e. cc) (λ _ e. cc))
    (λ _. typed_value-memory column.datatype content)

pub value_of-memory : (column : ColumnOf) (bytes : List ℕ) → NeedsNone (value_of column bytes)
value_of-memory column bytes = content_value-memory column (content_of column.datatype bytes)

abbrev reads_as : CellValue → Result CellValue CellFault
reads_as v = Ok v

same_value : (a b : CellValue) → reads_as a ≡ reads_as b → a ≡ b
same_value a b e = cc

boolean_of-fits : (ts fs : List (List ℕ)) (bytes : List ℕ) (v : CellValue) → boolean_of ts fs bytes ≡ Ok v → IsOfDatatype (boolean ts fs) v
boolean_of-fits ts fs bytes v =
    let is_false = list_any (λ other. bytes_eq other bytes) fs in
    let P : Result CellValue CellFault → Type 0 = λ r. r ≡ Ok v → IsOfDatatype (boolean ts fs) v in
    let of = λ (b : Bool) (e : value.boolean b ≡ v). subst (IsOfDatatype (boolean ts fs)) e tt in
    cond_both (list_any (λ other. bytes_eq other bytes) ts) (Ok (value.boolean true)) (cond is_false (Ok (value.boolean false)) (Err NotBoolean)) P
    (λ _ e. of true (same_value (value.boolean true) v e))
    (λ _. cond_both is_false (Ok (value.boolean false)) (Err NotBoolean) P (λ _ e. of false (same_value (value.boolean false) v e)) (λ _ e. absurd (cc)))

typed_value-fits : (datatype : DatatypeOf) (bytes : List ℕ) (v : CellValue) → typed_value datatype bytes ≡ Ok v → IsOfDatatype datatype v
typed_value-fits integer bytes v e = let is = integer_of-only bytes v e in subst (IsOfDatatype integer) (sym is.2) is.1
typed_value-fits text bytes v e = subst (IsOfDatatype text) (same_value (value.text bytes) v e) tt
typed_value-fits (boolean ts fs) bytes v e = boolean_of-fits ts fs bytes v e
typed_value-fits (date form) bytes v e =
    let is = date_of-only form bytes v e in
    subst (IsOfDatatype (date form)) (sym is.4) (is.0, refl, is.3.0)
typed_value-fits decimal bytes v e = let is = decimal_of-only bytes v e in subst (IsOfDatatype decimal) (sym is.2) is.1

-- null is of no datatype
no_null : (datatype : DatatypeOf) → IsOfDatatype datatype value.null → ⊥
no_null integer h = h
no_null text h = h
no_null (boolean ts fs) h = h
no_null (date form) h = h
no_null decimal h = h

of_datatype : (column : ColumnOf) (v : CellValue) → IsOfDatatype column.datatype v → IsOfColumn column v
of_datatype column value.null h = absurd (no_null column.datatype h)
of_datatype column (value.integer z) h = h
of_datatype column (value.text t) h = h
of_datatype column (value.boolean b) h = h
of_datatype column (value.date y m d) h = h
of_datatype column (value.decimal z) h = h

null_reading-fits : (column : ColumnOf) (v : CellValue) → null_reading column ≡ Ok v → IsOfColumn column v
null_reading-fits column v =
    cond_both column.required (Err Missing) (Ok value.null) (λ r. r ≡ Ok v → IsOfColumn column v)
    (λ _ e. absurd (cc))
    (λ is e. subst (IsOfColumn column) (same_value value.null v e) is)

pub value_of-fits : ValuesFitColumns
value_of-fits column bytes v =
    let content = text_or_default column (content_of column.datatype bytes) in
    cond_both (is_null_text column content) (null_reading column) (typed_value column.datatype content) (λ r. r ≡ Ok v → IsOfColumn column v)
    (λ _ e. null_reading-fits column v e)
    (λ _ e. of_datatype column v (typed_value-fits column.datatype content v e))

-- ---- columns that take all texts

-- a text that stands for null is one, and any other is a text
string_reading : (required is_null : Bool) (bytes : List ℕ) → required ≡ false → (v : CellValue) × (cond is_null (cond required (Err Missing) (Ok value.null)) (Ok (value.text bytes)) ≡ Ok v)
string_reading true is_null bytes e = absurd (cc)
string_reading false true bytes e = (value.null, refl)
string_reading false false bytes e = (value.text bytes, refl)

both : (s t : Bool) → s && not t ≡ true → (s ≡ true) × (t ≡ false)
both true false h = (refl, refl)
both true true h = absurd (cc)
both false t h = absurd (cc)

string_content : (datatype : DatatypeOf) → is_text datatype ≡ true → (column : ColumnOf) (bytes : List ℕ) → column.datatype ≡ datatype → column.required ≡ false
    → (v : CellValue) × (value_of column bytes ≡ Ok v)
string_content integer is column bytes e none = absurd (cc)
string_content (boolean ts fs) is column bytes e none = absurd (cc)
string_content (date form) is column bytes e none = absurd (cc)
string_content decimal is column bytes e none = absurd (cc)
string_content text is column bytes e none =
    let content = text_or_default column bytes in
    rw e (string_reading column.required (is_null_text column content) content none)

pub string_value : (column : ColumnOf) (bytes : List ℕ) → takes_all_texts column ≡ true → (v : CellValue) × (value_of column bytes ≡ Ok v)
string_value column bytes takes =
    let parts = both (is_text column.datatype) column.required takes in
    string_content column.datatype parts.0 column bytes refl parts.1
