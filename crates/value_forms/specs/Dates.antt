-- Dates whose parts are in another order (Unicode Technical Standard 35, part 4: the fields `y`, `M` and `d` of a date pattern), and the same days as `yyyy-MM-dd`.
use Rattle.std.specs.Prelude.{ℕ, zero, suc, ◌+◌, ◌-◌, ◌*◌, ◌==◌, ◌&&◌, ◌||◌, Bool, true, false, List, [], ◌∷◌, codes, if◌then◌else◌, map, take, Option, Some, None, unwrap_or}
use Rattle.std.specs.Char.{is_ascii_digit, to_ascii_lowercase}
use Rattle.std.specs.List.{after_first, before_first, list_any}
use Rattle.std.specs.Str.{bytes_eq}
use Rattle.cell_types.specs.Date.{date_text, is_date}
use Rattle.cell_types.specs.declared.datatype.DateForm.TheVariants.{YearMonthDay}
use Rattle.value_forms.specs.declared.date.DayForm.{DayForm}
use Rattle.value_forms.specs.declared.date.DateOrder.{DateOrder}
use Rattle.value_forms.specs.declared.date.DateOrder.TheVariants.{YearFirst, DayFirst, MonthFirst}
use Rattle.value_forms.specs.Numbers.{before_end}

-- the number of a day or a month: one digit, or two
abbrev pub short_number : List ℕ → Option ℕ
short_number (ones ∷ []) = if is_ascii_digit ones then Some (ones - 48) else None
short_number (tens ∷ (ones ∷ [])) = if is_ascii_digit tens && is_ascii_digit ones then Some ((tens - 48) * 10 + (ones - 48)) else None
short_number _ = None

-- the number of a year: four digits
abbrev pub year_number : List ℕ → Option ℕ
year_number (a ∷ (b ∷ (c ∷ (d ∷ [])))) =
    if is_ascii_digit a && is_ascii_digit b && is_ascii_digit c && is_ascii_digit d
    then Some ((a - 48) * 1000 + (b - 48) * 100 + (c - 48) * 10 + (d - 48)) else None
year_number _ = None

-- the name of a month in English, by its number
abbrev pub month_name : ℕ → List ℕ
month_name number =
    if number == 1 then codes "january" else (if number == 2 then codes "february" else (if number == 3 then codes "march"
    else (if number == 4 then codes "april" else (if number == 5 then codes "may" else (if number == 6 then codes "june"
    else (if number == 7 then codes "july" else (if number == 8 then codes "august" else (if number == 9 then codes "september"
    else (if number == 10 then codes "october" else (if number == 11 then codes "november" else codes "december"))))))))))

-- the name of a month, or its first three letters, in capitals or not
abbrev pub is_month : ℕ → List ℕ → Bool
is_month number text =
    bytes_eq (map to_ascii_lowercase (month_name number)) (map to_ascii_lowercase text)
    || bytes_eq (map to_ascii_lowercase (take 3 (month_name number))) (map to_ascii_lowercase text)

-- the first of `count` months, from one on, of which a text is the name
abbrev pub first_month : ℕ → ℕ → List ℕ → Option ℕ
first_month zero number text = None
first_month (suc count) number text = if is_month number text then Some number else first_month count (number + 1) text

unfoldable pub named_month : List ℕ → Option ℕ
named_month text = first_month 12 1 text

abbrev pub month_number : Bool → List ℕ → Option ℕ
month_number true text = named_month text
month_number false text = short_number text

-- the digits of a day, after which a comma may be if the month is a name
abbrev pub digits_of_day : Bool → List ℕ → List ℕ
digits_of_day true text = unwrap_or (before_end 44 text) text
digits_of_day false text = text

-- the bytes before the first separator, and those after it
abbrev pub before_separator : ℕ → List ℕ → List ℕ
before_separator separator text = before_first (λ byte. byte == separator) text

abbrev pub after_separator : ℕ → List ℕ → List ℕ
after_separator separator text = after_first (λ byte. byte == separator) text

-- the separator is there twice
abbrev pub has_parts : ℕ → List ℕ → Bool
has_parts separator text =
    list_any (λ byte. byte == separator) text && list_any (λ byte. byte == separator) (after_separator separator text)

-- the parts of a date, by which one comes first
abbrev pub year_among : DateOrder → List ℕ → List ℕ → List ℕ → List ℕ
year_among YearFirst first second third = first
year_among DayFirst first second third = third
year_among MonthFirst first second third = third

abbrev pub month_among : DateOrder → List ℕ → List ℕ → List ℕ → List ℕ
month_among YearFirst first second third = second
month_among DayFirst first second third = second
month_among MonthFirst first second third = first

abbrev pub day_among : DateOrder → List ℕ → List ℕ → List ℕ → List ℕ
day_among YearFirst first second third = third
day_among DayFirst first second third = first
day_among MonthFirst first second third = second

-- a day of the calendar as `yyyy-MM-dd`
abbrev pub text_of_day : Option ℕ → Option ℕ → Option ℕ → Option (List ℕ)
text_of_day (Some year) (Some month) (Some day) = if is_date year month day then Some (date_text YearMonthDay year month day) else None
text_of_day _ _ _ = None

-- the day of three parts
abbrev pub day_of_parts : DayForm → List ℕ → List ℕ → List ℕ → Option (List ℕ)
day_of_parts form first second third =
    text_of_day (year_number (year_among form.order first second third)) (month_number form.is_named (month_among form.order first second third))
    (short_number (digits_of_day form.is_named (day_among form.order first second third)))

-- the day that a text is, whose three parts the separator separates
unfoldable pub form_day : DayForm → List ℕ → Option (List ℕ)
form_day form text =
    let rest = after_separator form.separator text in
    if has_parts form.separator text
    then day_of_parts form (before_separator form.separator text) (before_separator form.separator rest) (after_separator form.separator rest) else None
