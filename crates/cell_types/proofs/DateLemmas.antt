-- The texts of dates.
use Rattle.std.proofs.Common.{◌≡◌, ℕ, ◌+◌, ◌/◌, ◌%◌, ◌<◌, ◌≤◌, ◌&&◌, Bool, true, false, cond, nat_le, lit≤, Result, MatchOption, IsOk, IfOk, ◌↔◌, ℤ, pos, ◌≢◌, List, [], ◌∷◌, ◌++◌, Ok, Err, arith, length, refl, sym, ap, ◌∙◌}
use Rattle.std.specs.Int.{is_in_range}
use Rattle.std.specs.Result.{result_ok}
use Rattle.std.specs.Str.{bytes_eq}
use Rattle.std.proofs.lemmas.Bool.{and_parts, and_from, le-leb, cond_both, false≢true}
use Rattle.std.proofs.lemmas.Bool.Decides.{nat_tests}
use Rattle.std.proofs.lemmas.Int.{ints}
use Rattle.std.proofs.lemmas.Slice.Eq.{bytes_eq-Decides}
use Rattle.std.proofs.lemmas.List.{append_assoc, length-append}
use Rattle.jiff_core.specs.Calendar.{IsBetween, IsDate, IsYear, days_in_month}
use Rattle.cell_types.specs.declared.fault.CellFault.TheVariants.{NotDate}
use Rattle.cell_types.specs.declared.datatype.DateForm.{DateForm}
use Rattle.cell_types.specs.declared.datatype.DateForm.TheVariants.{YearMonthDay, Compact, DayMonthYear, MonthDayYear, Dotted}
use Rattle.cell_types.specs.Date.{HasDate, HasNoDate, HasNoNumbers, HasDateNumbers, HasParts, IsDateText, date_of, date_text, day_place, four_digits, is_date, laid_out, month_place, digits_number, two_digits, year_place}
use Rattle.cell_types.specs.Value.{CellValue, date}
use Rattle.cell_types.specs.declared.fault.CellFault.{CellFault}

-- the digits of a number tell it
pub two_digits_injective : (m n : ℕ) → m < 100 → n < 100 → two_digits m ≡ two_digits n → m ≡ n
two_digits_injective m n small low e =
    let tens : 48 + m / 10 ≡ 48 + n / 10 = cc in
    let ones : 48 + m % 10 ≡ 48 + n % 10 = cc in
    omega arith

pub four_digits_injective : (m n : ℕ) → m < 10_000 → n < 10_000 → four_digits m ≡ four_digits n → m ≡ n
four_digits_injective m n small low e =
    let a : 48 + m / 100 / 10 ≡ 48 + n / 100 / 10 = cc in
    let b : 48 + m / 100 % 10 ≡ 48 + n / 100 % 10 = cc in
    let c : 48 + m % 100 / 10 ≡ 48 + n % 100 / 10 = cc in
    let d : 48 + m % 100 % 10 ≡ 48 + n % 100 % 10 = cc in
    omega arith

-- two texts that are one, in parts of the same lengths
parts_same : (xs ys us vs : List ℕ) → length xs ≡ length us → xs ++ ys ≡ us ++ vs → (xs ≡ us) × (ys ≡ vs)
parts_same [] ys [] vs same e = (refl, e)
parts_same [] ys (u ∷ us) vs same e = absurd (omega arith)
parts_same (x ∷ xs) ys [] vs same e = absurd (omega arith)
parts_same (x ∷ xs) ys (u ∷ us) vs same e =
    let head : x ≡ u = cc in
    let tail : xs ++ ys ≡ us ++ vs = cc in
    let rest = parts_same xs ys us vs (omega arith) tail in
    (rw (head, rest.0) refl, rest.1)

joined_same : (a s b t c k l m : List ℕ) → length a ≡ length k → length b ≡ length l → a ++ s ++ b ++ t ++ c ≡ k ++ s ++ l ++ t ++ m → (a ≡ k) × (b ≡ l) × (c ≡ m)
joined_same a s b t c k l m first second e =
    let right : a ++ (s ++ (b ++ (t ++ c))) ≡ k ++ (s ++ (l ++ (t ++ m))) = simp append_assoc at e in
    let p = parts_same a (s ++ (b ++ (t ++ c))) k (s ++ (l ++ (t ++ m))) first right in
    let q = parts_same s (b ++ (t ++ c)) s (l ++ (t ++ m)) refl p.1 in
    let r = parts_same b (t ++ c) l (t ++ m) second q.1 in
    (p.0, r.0, (parts_same t c t m refl r.1).1)

-- the parts of a text of a form
pub laid_out_injective : (form : DateForm) (y m d z n e : List ℕ) → length y ≡ length z → length m ≡ length n → length d ≡ length e
    → laid_out form y m d ≡ laid_out form z n e → (y ≡ z) × (m ≡ n) × (d ≡ e)
laid_out_injective YearMonthDay y m d z n e years months days same = joined_same y (45 ∷ []) m (45 ∷ []) d z n e years months same
laid_out_injective Compact y m d z n e years months days same =
    let p = parts_same (y ++ m) d (z ++ n) e (rw (length-append y m, length-append z n) (omega arith)) same in
    let q = parts_same y m z n years p.0 in
    (q.0, q.1, p.1)
laid_out_injective DayMonthYear y m d z n e years months days same =
    let r = joined_same d (47 ∷ []) m (47 ∷ []) y e n z days months same in (r.2, r.1, r.0)
laid_out_injective MonthDayYear y m d z n e years months days same =
    let r = joined_same m (47 ∷ []) d (47 ∷ []) y n e z months days same in (r.2, r.0, r.1)
laid_out_injective Dotted y m d z n e years months days same =
    let r = joined_same d (46 ∷ []) m (46 ∷ []) y e n z days months same in (r.2, r.1, r.0)

pub date_text_injective : (form : DateForm) (y m d z n e : ℕ) → y < 10_000 → m < 100 → d < 100 → z < 10_000 → n < 100 → e < 100
    → date_text form y m d ≡ date_text form z n e → (y ≡ z) × (m ≡ n) × (d ≡ e)
date_text_injective form y m d z n e a b c p q r same =
    let parts = laid_out_injective form (four_digits y) (two_digits m) (two_digits d) (four_digits z) (two_digits n) (two_digits e) refl refl refl same in
    (four_digits_injective y z a p parts.0, two_digits_injective m n b q parts.1, two_digits_injective d e c r parts.2)

-- a part with no digits
pub no_year : (form : DateForm) (bytes y m d : List ℕ) → HasParts form bytes y m d → ((n : ℕ) → n < 10_000 → y ≢ four_digits n) → HasNoNumbers form bytes
no_year form bytes y m d has none = λ z n e is.
    none z is.0 (laid_out_injective form y m d (four_digits z) (two_digits n) (two_digits e) has.0 has.1 has.2 (sym has.3 ∙ is.3)).0

pub no_month : (form : DateForm) (bytes y m d : List ℕ) → HasParts form bytes y m d → ((n : ℕ) → n < 100 → m ≢ two_digits n) → HasNoNumbers form bytes
no_month form bytes y m d has none = λ z n e is.
    none n is.1 (laid_out_injective form y m d (four_digits z) (two_digits n) (two_digits e) has.0 has.1 has.2 (sym has.3 ∙ is.3)).1

pub no_day : (form : DateForm) (bytes y m d : List ℕ) → HasParts form bytes y m d → ((n : ℕ) → n < 100 → d ≢ two_digits n) → HasNoNumbers form bytes
no_day form bytes y m d has none = λ z n e is.
    none e is.2 (laid_out_injective form y m d (four_digits z) (two_digits n) (two_digits e) has.0 has.1 has.2 (sym has.3 ∙ is.3)).2

-- the calendar's days, as numbers and as `jiff_core` has them
abbrev is_within : ℕ → ℕ → ℕ → ℕ → Bool
is_within last y m d = is_in_range 1 9999 y && is_in_range 1 12 m && is_in_range 1 last d

abbrev IsWithinYears : ℕ → ℤ → ℤ → ℤ → Type 0
IsWithinYears last y m d = IsYear y × IsBetween (pos 1) (pos 12) m × IsBetween (pos 1) (pos last) d

within_date : (last y m d : ℕ) → is_within last y m d ≡ true → (0 < y) × IsWithinYears last (pos y) (pos m) (pos d)
within_date last y m d h =
    let some : 0 < y = grind (arith, nat_tests) in
    let a : y ≤ 9999 = grind (arith, nat_tests) in
    let b : 1 ≤ m = grind (arith, nat_tests) in
    let c : m ≤ 12 = grind (arith, nat_tests) in
    let e : 1 ≤ d = grind (arith, nat_tests) in
    let f : d ≤ last = grind (arith, nat_tests) in
    (some, ((omega (arith, ints), omega (arith, ints)), (omega (arith, ints), omega (arith, ints)), (omega (arith, ints), omega (arith, ints))))

within : (last y m d : ℕ) → 1 ≤ y → y ≤ 9999 → 1 ≤ m → m ≤ 12 → 1 ≤ d → d ≤ last → is_within last y m d ≡ true
within last y m d a b c e f g =
    and_from (is_in_range 1 9999 y && is_in_range 1 12 m) (is_in_range 1 last d)
    (and_from (is_in_range 1 9999 y) (is_in_range 1 12 m)
    (and_from (nat_le 1 y) (nat_le y 9999) (le-leb 1 y a) (le-leb y 9999 b))
    (and_from (nat_le 1 m) (nat_le m 12) (le-leb 1 m c) (le-leb m 12 e)))
    (and_from (nat_le 1 d) (nat_le d last) (le-leb 1 d f) (le-leb d last g))

date_within : (last y m d : ℕ) → 0 < y → IsWithinYears last (pos y) (pos m) (pos d) → is_within last y m d ≡ true
date_within last y m d some h =
    let b : y ≤ 9999 = omega (arith, ints, h.0.1) in
    let c : 1 ≤ m = omega (arith, ints, h.1.0) in
    let e : m ≤ 12 = omega (arith, ints, h.1.1) in
    let f : 1 ≤ d = omega (arith, ints, h.2.0) in
    let g : d ≤ last = omega (arith, ints, h.2.1) in
    within last y m d some b c e f g

pub IsDate-is_date : (y m d : ℕ) → is_date y m d ≡ true → (0 < y) × IsDate (pos y) (pos m) (pos d)
IsDate-is_date y m d h = within_date (days_in_month (pos y) m) y m d h

pub is_date-IsDate : (y m d : ℕ) → 0 < y → IsDate (pos y) (pos m) (pos d) → is_date y m d ≡ true
is_date-IsDate y m d some h = date_within (days_in_month (pos y) m) y m d some h

month_at_most : (a b c : Bool) → cond a (cond b 29 28) (cond c 30 31) ≤ 31
month_at_most true true c = lit≤ tt
month_at_most true false c = lit≤ tt
month_at_most false b true = lit≤ tt
month_at_most false b false = lit≤ tt

is_date-bounds : (y m d : ℕ) → is_date y m d ≡ true → (y < 10_000) × (m < 100) × (d < 100)
is_date-bounds y m d h =
    let days : days_in_month (pos y) m ≤ 31 = month_at_most _ _ _ in
    let is = IsDate-is_date y m d h in
    (omega (arith, ints, is.1.0.1), omega (arith, ints, is.1.1.1), omega (arith, ints, is.1.2.1))

-- reading a date's text gives it back
abbrev ReadsNumbers : DateForm → ℕ → ℕ → ℕ → Type 0
ReadsNumbers form y m d = (digits_number (year_place form) 4 (date_text form y m d) ≡ y) × (digits_number (month_place form) 2 (date_text form y m d) ≡ m) × (digits_number (day_place form) 2 (date_text form y m d) ≡ d)

numbers_read : (form : DateForm) (y m d : ℕ) → y < 10_000 → m < 100 → d < 100 → ReadsNumbers form y m d
numbers_read YearMonthDay y m d a b c = (omega arith, omega arith, omega arith)
numbers_read Compact y m d a b c = (omega arith, omega arith, omega arith)
numbers_read DayMonthYear y m d a b c = (omega arith, omega arith, omega arith)
numbers_read MonthDayYear y m d a b c = (omega arith, omega arith, omega arith)
numbers_read Dotted y m d a b c = (omega arith, omega arith, omega arith)

date_of-numbers : (form : DateForm) (bytes : List ℕ) (y m d : ℕ) → digits_number (year_place form) 4 bytes ≡ y → digits_number (month_place form) 2 bytes ≡ m
    → digits_number (day_place form) 2 bytes ≡ d → is_date y m d ≡ true → bytes ≡ date_text form y m d → date_of form bytes ≡ Ok (date (pos y) m d)
unfolding date_of
date_of-numbers form bytes y m d years months days is same =
    let equal = (bytes_eq-Decides bytes (date_text form y m d)).1 same in
    rw (years, months, days, is, equal) refl

pub date_of-text : (form : DateForm) (bytes : List ℕ) (y m d : ℕ) → IsDateText form bytes y m d → date_of form bytes ≡ Ok (date (pos y) m d)
date_of-text form bytes y m d (is, same) =
    let b = is_date-bounds y m d is in
    let read = numbers_read form y m d b.0 b.1 b.2 in
    date_of-numbers form bytes y m d (ap (digits_number (year_place form) 4) same ∙ read.0) (ap (digits_number (month_place form) 2) same ∙ read.1)
    (ap (digits_number (day_place form) 2) same ∙ read.2) is same

pub date_of-none : (form : DateForm) (bytes : List ℕ) → HasNoDate form bytes → date_of form bytes ≡ Err NotDate
unfolding date_of
date_of-none form bytes none =
    let y = digits_number (year_place form) 4 bytes in
    let m = digits_number (month_place form) 2 bytes in
    let d = digits_number (day_place form) 2 bytes in
    let test = is_date y m d && bytes_eq bytes (date_text form y m d) in
    elim test as (λ v. test ≡ v → cond v (Ok (date (pos y) m d)) (Err NotDate) ≡ Err NotDate) [
      | true ↦ λ e.
          let both = and_parts (is_date y m d) (bytes_eq bytes (date_text form y m d)) e in
          absurd (none y m d (both.0, (bytes_eq-Decides bytes (date_text form y m d)).0 both.1))
      | false ↦ λ _. refl
    ] refl

-- a date that `jiff_core` makes of the numbers, or none
pub made_date : {D E : Type 0} (year : D → ℤ) (month day : D → ℕ) (form : DateForm) (bytes : List ℕ) (y m d : ℕ) (r : Result D E)
    → HasDateNumbers form bytes y m d → 0 < y → IsOk r ↔ IsDate (pos y) (pos m) (pos d)
    → IfOk r (λ x. (year x ≡ pos y) × (pos (month x) ≡ pos m) × (pos (day x) ≡ pos d))
    → MatchOption (result_ok r) (HasNoDate form bytes) (λ x. HasDate form bytes (year x) (month x) (day x))
made_date year month day form bytes y m d (Ok x) has some ok is =
    let same_month : m ≡ month x = cc in
    let same_day : d ≡ day x = cc in
    (y, is.0, (rw (← same_month, ← same_day) (is_date-IsDate y m d some (ok.0 refl)), rw (← same_month, ← same_day) has.3))
made_date year month day form bytes y m d (Err e) has some ok is = λ z n f (one, same).
    let b = is_date-bounds z n f one in
    let equal = date_text_injective form y m d z n f has.0 has.1 has.2 b.0 b.1 b.2 (sym has.3 ∙ same) in
    absurd (false≢true (ok.1 (rw (equal.0, equal.1, equal.2) (IsDate-is_date z n f one).1)))

pub date_of-only : (form : DateForm) (bytes : List ℕ) (v : CellValue) → date_of form bytes ≡ Ok v → (y : ℕ) × (m : ℕ) × (d : ℕ) × IsDateText form bytes y m d × (v ≡ date (pos y) m d)
unfolding date_of
date_of-only form bytes v =
    let y = digits_number (year_place form) 4 bytes in
    let m = digits_number (month_place form) 2 bytes in
    let d = digits_number (day_place form) 2 bytes in
    let same = bytes_eq bytes (date_text form y m d) in
    let Only : Result CellValue CellFault → Type 0 = λ r. r ≡ Ok v → (y : ℕ) × (m : ℕ) × (d : ℕ) × IsDateText form bytes y m d × (v ≡ date (pos y) m d) in
    cond_both (is_date y m d && same) (Ok (date (pos y) m d)) (Err NotDate) Only
    (λ t e. let both = and_parts (is_date y m d) same t in (y, m, d, (both.0, (bytes_eq-Decides bytes (date_text form y m d)).0 both.1), cc))
    (λ _ e. cc)
