-- Laws of the names and formats of datatypes, with worked values.
use Rattle.std.specs.Prelude.{◌≡◌, ℕ, List, [], ◌∷◌, codes, Option, None, Some, option_and_then}
use Rattle.cell_types.specs.declared.datatype.DateForm.TheVariants.{YearMonthDay, Compact, DayMonthYear, MonthDayYear, Dotted}
use Rattle.cell_types.specs.Datatype.{DatatypeOf, integer, text, boolean, date, decimal}
use Rattle.datatype_texts.specs.Names.{name_of_datatype, datatype_named, format_of_datatype, format_text, with_format}

-- the datatype of a name and a format, if there is one
abbrev pub datatype_said : List ℕ → Option (List ℕ) → Option DatatypeOf
datatype_said name None = datatype_named name
datatype_said name (Some format) = option_and_then (λ base. with_format base format) (datatype_named name)

-- what a name and a format say is said again by the name and the format of that datatype
unfoldable pub ReadBack : Type 0
ReadBack = (name : List ℕ) (format : Option (List ℕ)) (d : DatatypeOf) → datatype_said name format ≡ Some d → datatype_said (name_of_datatype d) (format_text (format_of_datatype d)) ≡ Some d

pub record WorkedDatatypes : Type 0 where
  pub integers : datatype_said (codes "integer") None ≡ Some integer
  pub strings : datatype_said (codes "string") None ≡ Some text
  pub decimals : datatype_said (codes "decimal") None ≡ Some decimal
  pub booleans : datatype_said (codes "boolean") None ≡ Some (boolean (codes "true" ∷ codes "1" ∷ []) (codes "false" ∷ codes "0" ∷ []))
  pub two_texts : datatype_said (codes "boolean") (Some (codes "Y|N")) ≡ Some (boolean (codes "Y" ∷ []) (codes "N" ∷ []))
  pub dates : datatype_said (codes "date") None ≡ Some (date YearMonthDay)
  pub compact_dates : datatype_said (codes "date") (Some (codes "yyyyMMdd")) ≡ Some (date Compact)
  pub days_first : datatype_said (codes "date") (Some (codes "dd/MM/yyyy")) ≡ Some (date DayMonthYear)
  pub months_first : datatype_said (codes "date") (Some (codes "MM/dd/yyyy")) ≡ Some (date MonthDayYear)
  pub dotted_dates : datatype_said (codes "date") (Some (codes "dd.MM.yyyy")) ≡ Some (date Dotted)
  -- refused: a name that is not served, a format of a datatype that has none, one text, three, an empty one, two that are equal, another pattern
  pub numbers : datatype_said (codes "number") None ≡ None
  pub patterns_of_integers : datatype_said (codes "integer") (Some (codes "yyyyMMdd")) ≡ None
  pub one_text : datatype_said (codes "boolean") (Some (codes "Y")) ≡ None
  pub three_texts : datatype_said (codes "boolean") (Some (codes "Y|N|M")) ≡ None
  pub an_empty_text : datatype_said (codes "boolean") (Some (codes "Y|")) ≡ None
  pub equal_texts : datatype_said (codes "boolean") (Some (codes "Y|Y")) ≡ None
  pub other_patterns : datatype_said (codes "date") (Some (codes "yyyy/MM/dd")) ≡ None
  -- written
  pub text_of_true_first : format_text (format_of_datatype (boolean (codes "Y" ∷ []) (codes "N" ∷ []))) ≡ Some (codes "Y|N")
  pub plain_dates : format_text (format_of_datatype (date YearMonthDay)) ≡ Some (codes "yyyy-MM-dd")
  pub none_of_integers : format_text (format_of_datatype integer) ≡ None
