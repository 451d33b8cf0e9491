-- The values of a kind that numbers stand for, and the numbers of the values of a kind.
use Rattle.std.proofs.Common.{◌≡◌, ◌≤◌, ◌<◌, ◌/◌, ◌%◌, ℕ, Bool, true, false, cond, Option, Some, None, refl, sym, ap, ◌∙◌, subst, arith}
use Rattle.std.specs.Prelude.{ℤ, pos, negsuc, ◌≤ℤ◌, ◌<ℤ◌}
use Rattle.std.specs.Ordering.{int_eq}
use Rattle.std.proofs.lemmas.Bool.{false≢true}
use Rattle.std.proofs.lemmas.Bool.Decides.{Decides-int_eq}
use Rattle.std.proofs.lemmas.Int.{ints}
use Rattle.jiff_core.specs.Calendar.{IsDate}
use Rattle.jiff_core.specs.Date.{IsYmd}
use Rattle.jiff_core.specs.declared.civil.date.Date.{Date}
use Rattle.cell_types.specs.Column.{ColumnOf}
use Rattle.cell_types.specs.Datatype as datatype
use Rattle.cell_types.specs.Datatype.{DatatypeOf}
use Rattle.cell_types.specs.Date.{is_date}
use Rattle.cell_types.specs.Kind.{day_cell, is_of_kind, number_cell, number_in, number_of_day, HasRealDay}
use Rattle.cell_types.specs.Laws.{HasNumber, IsOfColumn, IsOfDatatype}
use Rattle.cell_types.specs.Value.{CellValue, boolean, date, decimal, integer, null}
use Rattle.cell_types.specs.declared.kind.ColumnKind.TheVariants.{Number}
use Rattle.cell_types.specs.declared.kind.NumberKind.{NumberKind}
use Rattle.cell_types.specs.declared.kind.NumberKind.TheVariants as numbers
use Rattle.cell_types.proofs.DateLemmas.{IsDate-is_date, is_date-IsDate}

-- ---- days by their numbers

there : (b : Bool) (v : CellValue) → b ≡ true → cond b (Some v) None ≡ Some v
there true v e = refl
there false v e = absurd (cc)

not_there : (b : Bool) (v : CellValue) → (b ≡ true → ⊥) → cond b (Some v) None ≡ None
not_there true v none = absurd (none refl)
not_there false v none = refl

is-there : (b : Bool) (v w : CellValue) → cond b (Some v) None ≡ Some w → (b ≡ true) × (v ≡ w)
is-there true v w e = (refl, cc)
is-there false v w e = absurd (cc)

-- the calendar has a day of these numbers
abbrev IsDayOf : ℕ → Type 0
IsDayOf n = IsDate (pos (n / 512)) (pos (n % 512 / 32)) (pos (n % 32))

pub day-there : (n : ℕ) (d : Date) → 512 ≤ n → IsDayOf n → IsYmd (pos (n / 512)) (pos (n % 512 / 32)) (pos (n % 32)) d → Some (date d.year d.month d.day) ≡ day_cell (pos n)
day-there n d some is ymd =
    let month : d.month ≡ n % 512 / 32 = omega (arith, ints, ymd.1) in
    let day : d.day ≡ n % 32 = omega (arith, ints, ymd.2) in
    let first : 0 < n / 512 = omega (arith, some) in
    let calendar : is_date (n / 512) (n % 512 / 32) (n % 32) ≡ true = is_date-IsDate (n / 512) (n % 512 / 32) (n % 32) first is in
    ap (λ y. Some (date y d.month d.day)) ymd.0 ∙ ap (λ m. Some (date (pos (n / 512)) m d.day)) month ∙ ap (λ k. Some (date (pos (n / 512)) (n % 512 / 32) k)) day
    ∙ sym (there (is_date (n / 512) (n % 512 / 32) (n % 32)) (date (pos (n / 512)) (n % 512 / 32) (n % 32)) calendar)

-- a number of no such day
no-day : (n : ℕ) → (0 < n / 512 → IsDayOf n → ⊥) → day_cell (pos n) ≡ None
no-day n none =
    not_there (is_date (n / 512) (n % 512 / 32) (n % 32)) (date (pos (n / 512)) (n % 512 / 32) (n % 32))
    (λ e. none (IsDate-is_date (n / 512) (n % 512 / 32) (n % 32) e).0 (IsDate-is_date (n / 512) (n % 512 / 32) (n % 32) e).1)

pub day-not_there : (n : ℕ) → (IsDayOf n → ⊥) → day_cell (pos n) ≡ None
day-not_there n none = no-day n (λ first is. none is)

pub day-outside : (z : ℤ) → (pos 512 ≤ℤ z → z <ℤ pos 5_120_000 → ⊥) → day_cell z ≡ None
day-outside (pos n) none = no-day n (λ first is. none (omega (arith, ints, first)) (omega (arith, ints, is.0.1)))
day-outside (negsuc n) none = refl

-- ---- values with their numbers

day-value : (z : ℤ) (v : CellValue) → day_cell z ≡ Some v → HasNumber numbers.Date (Some z) v
day-value (pos n) v e =
    let is = is-there (is_date (n / 512) (n % 512 / 32) (n % 32)) (date (pos (n / 512)) (n % 512 / 32) (n % 32)) v e in
    let number : number_of_day (record { year = pos (n / 512); month = n % 512 / 32; day = n % 32 }) ≡ pos n = omega (arith, ints) in
    subst (HasNumber numbers.Date (Some (pos n))) is.1
    (record { kind_is = refl; number_is = ap (λ k. Some k) number; day = (IsDate-is_date (n / 512) (n % 512 / 32) (n % 32) is.0).1 })
day-value (negsuc n) v e = absurd (cc)

truth-by : (z : ℤ) (v : CellValue) (zero one : Bool) → (zero ≡ true → z ≡ pos 0) → (one ≡ true → z ≡ pos 1) → cond zero (Some (boolean false)) (cond one (Some (boolean true)) None) ≡ Some v
    → HasNumber numbers.Boolean (Some z) v
truth-by z v true one f g e =
    let is : boolean false ≡ v = cc in
    subst (λ n. HasNumber numbers.Boolean (Some n) v) (sym (f refl)) (subst (HasNumber numbers.Boolean (Some (pos 0))) is (record { kind_is = refl; number_is = refl; day = tt }))
truth-by z v false true f g e =
    let is : boolean true ≡ v = cc in
    subst (λ n. HasNumber numbers.Boolean (Some n) v) (sym (g refl)) (subst (HasNumber numbers.Boolean (Some (pos 1))) is (record { kind_is = refl; number_is = refl; day = tt }))
truth-by z v false false f g e = absurd (cc)

pub no-number : (k : NumberKind) → number_in k null ≡ None
no-number numbers.Integer = refl
no-number numbers.Decimal = refl
no-number numbers.Boolean = refl
no-number numbers.Date = refl

-- the value that is given for a number has that number
pub given-number : (k : NumberKind) (number : Option ℤ) (value : CellValue) → number_cell k number ≡ Some value → HasNumber k number value
given-number k None v e = let is : null ≡ v = cc in subst (HasNumber k None) is (record { kind_is = refl; number_is = no-number k; day = tt })
given-number numbers.Integer (Some n) v e = let is : integer n ≡ v = cc in subst (HasNumber numbers.Integer (Some n)) is (record { kind_is = refl; number_is = refl; day = tt })
given-number numbers.Decimal (Some n) v e = let is : decimal n ≡ v = cc in subst (HasNumber numbers.Decimal (Some n)) is (record { kind_is = refl; number_is = refl; day = tt })
given-number numbers.Boolean (Some n) v e = truth-by n v (int_eq n (pos 0)) (int_eq n (pos 1)) (Decides-int_eq n (pos 0)).0 (Decides-int_eq n (pos 1)).0 e
given-number numbers.Date (Some n) v e = day-value n v e

-- of a kind null alone has no number
pub only-null : (k : NumberKind) (v : CellValue) → is_of_kind (Number k) v ≡ true → number_in k v ≡ None → v ≡ null
only-null k null e f = refl
only-null numbers.Integer (integer z) e f = absurd (cc)
only-null numbers.Decimal (decimal z) e f = absurd (cc)
only-null numbers.Boolean (boolean b) e f = absurd (cc)
only-null numbers.Date (date y m d) e f = absurd (cc)
only-null k v e f = absurd (false≢true e)

-- ---- the days that a column may have

datatype-day : (type : DatatypeOf) (year : ℤ) (month day : ℕ) → IsOfDatatype type (date year month day) → IsDate year (pos month) (pos day)
datatype-day (datatype.date form) year month day h = subst (λ y. IsDate y (pos month) (pos day)) (sym h.1) (IsDate-is_date h.0 month day h.2).1
datatype-day type year month day h = absurd h

pub column-day : (c : ColumnOf) (v : CellValue) → IsOfColumn c v → HasRealDay v
column-day c (date year month day) h = datatype-day c.datatype year month day h
column-day c v h = tt
