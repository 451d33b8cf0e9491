-- The form of dates with a pattern.
use Rattle.std.proofs.Common.{◌≡◌, ◌≢◌, ℕ, List, Bool, true, false, Option, None, Some, MatchOption, refl, sym, ap, ◌∙◌}
use Rattle.std.specs.Cmp.Lexicographic.{same_text}
use Rattle.std.specs.Str.{bytes_eq}
use Rattle.cell_types.specs.declared.datatype.DateForm.{DateForm}
use Rattle.cell_types.specs.declared.datatype.DateForm.TheVariants.{YearMonthDay, Compact, DayMonthYear, MonthDayYear, Dotted}
use Rattle.cell_types.specs.Datatype.{pattern_of}
use Rattle.datatype_texts.specs.Names.{date_form}

pub of_pattern : (form : DateForm) → Some form ≡ date_form (pattern_of form)
of_pattern YearMonthDay = refl
of_pattern Compact = refl
of_pattern DayMonthYear = refl
of_pattern MonthDayYear = refl
of_pattern Dotted = refl

other_at : (a b : List ℕ) (same : Bool) → bytes_eq a b ≡ same → a ≢ b → bytes_eq a b ≡ false
other_at a b true e apart = absurd (apart (same_text a b (sym e)))
other_at a b false e apart = e

other : (a b : List ℕ) → a ≢ b → bytes_eq a b ≡ false
other a b apart = other_at a b (bytes_eq a b) refl apart

-- the form whose pattern is the format, or none where no pattern is
pub date_form-is : (format : List ℕ) (form : Option DateForm) → MatchOption form ((form : DateForm) → pattern_of form ≢ format) (λ form. pattern_of form ≡ format) → form ≡ date_form format
date_form-is format (Some form) h = of_pattern form ∙ ap date_form h
date_form-is format None h =
    rw (other (pattern_of YearMonthDay) format (h YearMonthDay), other (pattern_of Compact) format (h Compact), other (pattern_of DayMonthYear) format (h DayMonthYear), other (pattern_of MonthDayYear) format (h MonthDayYear), other (pattern_of Dotted) format (h Dotted)) refl
