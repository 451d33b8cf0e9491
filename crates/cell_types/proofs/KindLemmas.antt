-- Numbers, and the cells that they stand for.
use Rattle.std.proofs.Common.{◌≡◌, ℕ, ◌+◌, ◌*◌, ◌/◌, ◌%◌, ◌<◌, ◌≤◌, inl, inr, Some, true, false, refl, sym, ap, ◌∙◌, subst, arith}
use Rattle.std.specs.Prelude.{ℤ, pos}
use Rattle.std.specs.Int.{int_div_euclid}
use Rattle.std.specs.Ordering.{int_eq}
use Rattle.std.proofs.lemmas.Int.{ints}
use Rattle.jiff_core.specs.Calendar.{IsDate, IsYear, days_in_month}
use Rattle.cell_types.specs.Value.{CellValue, boolean, date, decimal, integer, is_null}
use Rattle.cell_types.specs.Kind.{day_number, is_of_kind, number_in, number_of, place_in_year, typed_cell, HasRealDay, IsNumberOf}
use Rattle.cell_types.specs.declared.kind.ColumnKind.TheVariants.{Number}
use Rattle.cell_types.specs.declared.kind.NumberKind.{NumberKind}
use Rattle.cell_types.specs.declared.kind.NumberKind.TheVariants.{Integer, Decimal, Boolean, Date}
use Rattle.cell_types.proofs.NumberLaws.{int_div_euclid-512, int_rem_euclid-512}

-- a month and a day of a date
pub record IsPlace (month day : ℕ) : Type 0 where
  pub month_below : month < 16
  pub day_below : day < 32

pub month_days : (year : ℤ) (month : ℕ) → days_in_month year month ≤ 31
month_days year month = grind arith

pub date-place : (year : ℤ) (month day : ℕ) → IsDate year (pos month) (pos day) → IsPlace month day
date-place year month day is = record {
  month_below = omega (arith, ints, is.1.1);
  day_below = omega (arith, ints, is.2.1, month_days year month);
}

-- the parts of a day's number
pub record HasParts (number year : ℤ) (month day : ℕ) : Type 0 where
  pub year_is : int_div_euclid number (pos 512) ≡ year
  pub place_is : place_in_year number ≡ 32 * month + day
  pub month_is : place_in_year number / 32 ≡ month
  pub day_is : place_in_year number % 32 ≡ day

pub number-parts : (number year : ℤ) (month day : ℕ) → IsPlace month day → number ≡ day_number year month day → HasParts number year month day
number-parts number year month day is e =
    let small : 32 * month + day < 512 = omega (arith, is.month_below, is.day_below) in
    let place : place_in_year number ≡ 32 * month + day = ap place_in_year e ∙ int_rem_euclid-512 year (32 * month + day) small in
    record {
      year_is = ap (λ z. int_div_euclid z (pos 512)) e ∙ int_div_euclid-512 year (32 * month + day) small;
      place_is = place;
      month_is = omega (arith, place, is.day_below);
      day_is = omega (arith, place, is.day_below);
    }

-- ---- the number of a cell that a number stands for

date_cell : (year : ℤ) (month day : ℕ) (y : ℤ) (m d : ℕ) → y ≡ year → m ≡ month → d ≡ day → date y m d ≡ date year month day
date_cell year month day y m d e f g = cc

pub typed_cell-date : (number year : ℤ) (month day : ℕ) → HasParts number year month day → typed_cell Date number ≡ date year month day
typed_cell-date number year month day parts = date_cell year month day _ _ _ parts.year_is parts.month_is parts.day_is

pub number-typed_cell : (kind : NumberKind) (number : ℤ) → IsNumberOf kind number → number_of (typed_cell kind number) ≡ Some number
number-typed_cell Integer number is = refl
number-typed_cell Decimal number is = refl
number-typed_cell Boolean number (inl e) = rw e refl
number-typed_cell Boolean number (inr e) = rw e refl
number-typed_cell Date number is =
    let parts = number-parts number is.0 is.1 is.2 (date-place is.0 is.1 is.2 is.3) is.4 in
    ap number_of (typed_cell-date number is.0 is.1 is.2 parts) ∙ ap Some (sym is.4)

pub typed-value : (kind : NumberKind) (number : ℤ) → is_null (typed_cell kind number) ≡ false
typed-value Integer number = refl
typed-value Decimal number = refl
typed-value Boolean number = refl
typed-value Date number = refl

pub typed-kind : (kind : NumberKind) (number : ℤ) → is_of_kind (Number kind) (typed_cell kind number) ≡ true
typed-kind Integer number = refl
typed-kind Decimal number = refl
typed-kind Boolean number = refl
typed-kind Date number = refl

-- ---- the value of the number that stands for a value

pub cell-number : (kind : NumberKind) (value : CellValue) (number : ℤ) → HasRealDay value → number_in kind value ≡ Some number → IsNumberOf kind number × (value ≡ typed_cell kind number)
cell-number Integer (integer z) number day e = let same : z ≡ number = cc in (tt, ap (λ x. integer x) same)
cell-number Integer value number day e = absurd (cc)
cell-number Decimal (decimal z) number day e = let same : z ≡ number = cc in (tt, ap (λ x. decimal x) same)
cell-number Decimal value number day e = absurd (cc)
cell-number Boolean (boolean false) number day e = let same : pos 0 ≡ number = cc in (inl (sym same), ap (λ x. boolean (int_eq x (pos 1))) same)
cell-number Boolean (boolean true) number day e = let same : pos 1 ≡ number = cc in (inr (sym same), ap (λ x. boolean (int_eq x (pos 1))) same)
cell-number Boolean value number day e = absurd (cc)
cell-number Date (date y m d) number day e =
    let same : number ≡ day_number y m d = cc in
    ((y, m, d, day, same), sym (typed_cell-date number y m d (number-parts number y m d (date-place y m d day) same)))
cell-number Date value number day e = absurd (cc)

pub year-fits : (year : ℤ) (month day : ℕ) (y : ℤ) → y ≡ year → IsDate year (pos month) (pos day) → IsYear y
year-fits year month day y e is = subst IsYear (sym e) is.0

pub month-fits : (year : ℤ) (month day m : ℕ) → m ≡ month → IsDate year (pos month) (pos day) → (1 ≤ m) × (m ≤ 12)
month-fits year month day m f is = (omega (arith, ints, is.1.0), omega (arith, ints, is.1.1))

pub day-fits : (year : ℤ) (month day : ℕ) (y : ℤ) (m d : ℕ) → y ≡ year → m ≡ month → d ≡ day → IsDate year (pos month) (pos day)
    → (1 ≤ d) × (d ≤ days_in_month y m)
day-fits year month day y m d e f g is =
    let within : (1 ≤ day) × (day ≤ days_in_month year month) = (omega (arith, ints, is.2.0), omega (arith, ints, is.2.1)) in
    subst (λ x. (1 ≤ x) × (x ≤ days_in_month y m)) (sym g)
    (subst (λ x. (1 ≤ day) × (day ≤ days_in_month y x)) (sym f) (subst (λ x. (1 ≤ day) × (day ≤ days_in_month x month)) (sym e) within))

pos-same : (m n : ℕ) → pos m ≡ pos n → m ≡ n
pos-same m n e = omega (arith, ints)

pub number-same : (number year : ℤ) (month day : ℕ) (y : ℤ) (m d : ℕ) → y ≡ year → pos m ≡ pos month → pos d ≡ pos day → number ≡ day_number year month day → number ≡ day_number y m d
number-same number year month day y m d e f g is =
    is ∙ ap (λ x. day_number x month day) (sym e) ∙ ap (λ x. day_number y x day) (sym (pos-same m month f)) ∙ ap (λ x. day_number y m x) (sym (pos-same d day g))
