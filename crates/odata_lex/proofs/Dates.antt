-- Whether a text is the form of a date, and whether the calendar has the day that it writes.
use Rattle.std.proofs.Common.{◌≡◌, ℕ, ◌<◌, ◌≤◌, List, refl, arith, pos, nat_le, Ok, Err, Result, Option, Some, None, ◌≢◌, ◌↔◌, IsOk, IfOk, MatchOption, ℤ}
use Rattle.std.proofs.lemmas.Bool.Decides.{nat_tests, Decides-and, Decides-like, Decides-eqb}
use Rattle.std.proofs.lemmas.Int.{ints}
use Rattle.std.specs.Bool.{Decides}
use Rattle.std.specs.Result.{result_ok}
use Rattle.std.specs.Int.{IsInRange, is_in_range}
use Rattle.jiff_core.specs.Calendar.{IsDate, days_in_month}
use Rattle.jiff_core.specs.Date.{IsYmd}
use Rattle.jiff_core.specs.declared.error.Error.{Error}
use Rattle.jiff_core.specs.declared.civil.date.Date.{Date}
use Rattle.odata_lex.specs.Token.{IsDateForm, IsDayFromOne, IsDateToken, year_of, month_of, day_digits}
use Rattle.odata_lex.specs.First.{is_date_form, is_day}
use Rattle.odata_lex.proofs.Digits.{Decides-digits, value_whole, take_short}

pub Decides-date_form : (text : List ℕ) → Decides (is_date_form text) (IsDateForm text)
Decides-date_form text =
    Decides-like _
    (λ h. record { ten = h.0.0.0.0.0; year = h.0.0.0.0.1; before_month = h.0.0.0.1; month = h.0.0.1; before_day = h.0.1; day = h.1 })
    (λ f. (((((f.ten, f.year), f.before_month), f.month), f.before_day), f.day))
    (Decides-and _ _ (Decides-and _ _ (Decides-and _ _ (Decides-and _ _ (Decides-and _ _ (Decides-eqb _ _) (Decides-digits _)) (Decides-eqb _ _)) (Decides-digits _)) (Decides-eqb _ _)) (Decides-digits _))

-- the parts of a date are small
pub year_small : (text : List ℕ) → IsDateForm text → year_of text < 10000
year_small text form = value_whole _ 4 form.year (take_short 4 text 4 (omega arith))

pub month_small : (text : List ℕ) → IsDateForm text → month_of text < 100
month_small text form = value_whole _ 2 form.month (take_short 2 _ 2 (omega arith))

pub day_small : (text : List ℕ) → IsDateForm text → day_digits text < 100
day_small text form = value_whole _ 2 form.day (take_short 2 _ 2 (omega arith))

in_range_decides : (low high n : ℕ) → Decides (is_in_range low high n) (IsInRange low high n)
in_range_decides low high n = ((λ yes. grind (arith, nat_tests)), (λ within. grind (arith, nat_tests)))

least_decides : (n : ℕ) → Decides (nat_le 1 n) (1 ≤ n)
least_decides n = ((λ yes. grind (arith, nat_tests)), (λ within. grind (arith, nat_tests)))

pub date_is : (y m d : ℕ) → y < 10000 → IsInRange 1 12 m → IsInRange 1 (days_in_month (pos y) m) d → IsDate (pos y) (pos m) (pos d)
date_is y m d small month day =
    ((omega (arith, ints), omega (arith, ints)), (omega (arith, ints), omega (arith, ints)), (omega (arith, ints), omega (arith, ints)))

pub date_parts : (y m d : ℕ) → IsDate (pos y) (pos m) (pos d) → IsInRange 1 12 m × IsInRange 1 (days_in_month (pos y) m) d
date_parts y m d date =
    ((omega (arith, ints, date.1.0), omega (arith, ints, date.1.1)), (omega (arith, ints, date.2.0), omega (arith, ints, date.2.1)))

pub Decides-day : (text : List ℕ) → IsDateForm text → Decides (is_day text) (IsDateToken text)
Decides-day text form =
    Decides-like _
    (λ h. record { form = form; day = (h.0.0, date_is _ _ _ (year_small text form) h.0.1 h.1) })
    (λ f. ((f.day.0, (date_parts _ _ _ f.day.1).0), (date_parts _ _ _ f.day.1).1))
    (Decides-and _ _ (Decides-and _ _ (least_decides _) (in_range_decides _ _ _)) (in_range_decides _ _ _))

-- what the calendar answers
pub day_or_none : (y m d : ℕ) (year month day : ℤ) (r : Result Date Error) → year ≡ pos y → month ≡ pos m → day ≡ pos d → y ≢ 0 → (IsOk r ↔ IsDate year month day) → IfOk r (IsYmd year month day) → MatchOption (result_ok r) (¬ (IsDayFromOne y m d)) (λ date. IsDayFromOne y m d × IsYmd (pos y) (pos m) (pos d) date)
day_or_none y m d year month day (Ok date) ey em ed positive there made =
    ((omega arith, rw (ey, em, ed) at (there.0 refl)), rw (ey, em, ed) at made)
day_or_none y m d year month day (Err e) ey em ed positive there made =
    λ one. let ok : IsOk {T = Date} {E = Error} (Err e) = there.1 (rw (ey, em, ed) one.1) in cc

-- the same, of a text of that form
pub date_or_none : (text : List ℕ) (y m d : ℕ) (r : Option Date) → IsDateForm text → y ≡ year_of text → m ≡ month_of text → d ≡ day_digits text → MatchOption r (¬ (IsDayFromOne y m d)) (λ date. IsDayFromOne y m d × IsYmd (pos y) (pos m) (pos d) date) → MatchOption r (¬ (IsDateToken text)) (λ date. IsDateToken text × IsYmd (pos (year_of text)) (pos (month_of text)) (pos (day_digits text)) date)
date_or_none text y m d None form ey em ed none = λ date. none (rw (ey, em, ed) date.day)
date_or_none text y m d (Some date) form ey em ed some =
    (record { form = form; day = rw (ey, em, ed) at some.0 }, rw (ey, em, ed) at some.1)
