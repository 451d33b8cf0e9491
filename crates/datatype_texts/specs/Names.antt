-- The names of datatypes and their formats (Metadata Vocabulary for Tabular Data, section 5.11; Model for Tabular Data and Metadata on the Web, section 6.4).
use Rattle.std.specs.Prelude.{ℕ, Bool, false, true, not, ◌&&◌, ◌==◌, List, [], ◌∷◌, ◌++◌, length, nat_lt, codes, Option, None, Some, option_map, if◌then◌else◌}
use Rattle.std.specs.List.{list_any, find, before_first, after_first}
use Rattle.std.specs.Str.{bytes_eq}
use Rattle.cell_types.specs.declared.datatype.BooleanForm.TheVariants.{Standard}
use Rattle.cell_types.specs.declared.datatype.DateForm.{DateForm}
use Rattle.cell_types.specs.declared.datatype.DateForm.TheVariants.{YearMonthDay, Compact, DayMonthYear, MonthDayYear, Dotted}
use Rattle.cell_types.specs.Datatype.{DatatypeOf, integer, text, boolean, date, decimal, boolean_view, pattern_of}
use Rattle.datatype_texts.specs.declared.format.DatatypeFormat.{DatatypeFormat}
use Rattle.datatype_texts.specs.declared.format.DatatypeFormat.TheVariants as said

-- the datatypes that are served, by their names, as they are without a format
abbrev pub datatype_named : List ℕ → Option DatatypeOf
datatype_named name =
    if bytes_eq name (codes "integer") then Some integer
    else (if bytes_eq name (codes "string") then Some text
    else (if bytes_eq name (codes "boolean") then Some (boolean_view Standard)
    else (if bytes_eq name (codes "date") then Some (date YearMonthDay)
    else (if bytes_eq name (codes "decimal") then Some decimal else None))))

-- the name of a datatype
abbrev pub name_of_datatype : DatatypeOf → List ℕ
name_of_datatype integer = codes "integer"
name_of_datatype text = codes "string"
name_of_datatype (boolean of_true of_false) = codes "boolean"
name_of_datatype (date form) = codes "date"
name_of_datatype decimal = codes "decimal"

-- a datatype whose texts have a format
abbrev pub has_formats : DatatypeOf → Bool
has_formats (boolean of_true of_false) = true
has_formats (date form) = true
has_formats _ = false

-- a vertical bar
abbrev pub bar : ℕ
bar = 124

abbrev pub is_bar : ℕ → Bool
is_bar byte = byte == bar

-- what stands before the first bar and what stands after it: neither is empty, they are different, and there is no other bar
abbrev pub boolean_texts : List ℕ → Option (List ℕ × List ℕ)
boolean_texts format = let of_true = before_first is_bar format in let of_false = after_first is_bar format in
    if nat_lt 0 (length of_true) && nat_lt 0 (length of_false) && not (bytes_eq of_true of_false) && not (list_any is_bar of_false)
    then Some (of_true, of_false) else None

-- the form of dates with that pattern
abbrev pub date_form : List ℕ → Option DateForm
date_form format = find (λ form. bytes_eq (pattern_of form) format) (YearMonthDay ∷ Compact ∷ DayMonthYear ∷ MonthDayYear ∷ Dotted ∷ [])

-- a boolean with those texts of true and of false
abbrev pub boolean_of_texts : List ℕ × List ℕ → DatatypeOf
boolean_of_texts texts = boolean (texts.0 ∷ []) (texts.1 ∷ [])

-- a datatype with a format, if it may have that one: a boolean has the texts of true and of false, a date its form
abbrev pub with_format : DatatypeOf → List ℕ → Option DatatypeOf
with_format (boolean of_true of_false) format = option_map boolean_of_texts (boolean_texts format)
with_format (date form) format = option_map date (date_form format)
with_format _ format = None

-- what metadata says of a datatype besides its name: the pattern of its dates, or its texts of true and of false
pub data FormatOf : Type 0 where
  absent : FormatOf
  pattern : List ℕ → FormatOf
  texts : List ℕ → List ℕ → FormatOf

abbrev pub format_view : DatatypeFormat → FormatOf
format_view said.Absent = absent
format_view (said.Pattern form) = pattern form.now
format_view (said.Texts of_true of_false) = texts of_true.now of_false.now

-- the format of a datatype
abbrev pub format_of_datatype : DatatypeOf → FormatOf
format_of_datatype (boolean (of_true ∷ []) (of_false ∷ [])) = texts of_true of_false
format_of_datatype (date form) = pattern (pattern_of form)
format_of_datatype _ = absent

-- its text: of two texts that of true, a bar, and that of false
abbrev pub format_text : FormatOf → Option (List ℕ)
format_text absent = None
format_text (pattern form) = Some form
format_text (texts of_true of_false) = Some (of_true ++ bar ∷ of_false)
