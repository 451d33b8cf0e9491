-- Numbers with their kinds.
use Rattle.std.proofs.Common.{◌≡◌, ◌/◌, ◌%◌, Some, pos, refl, sym, ap, subst}
use Rattle.std.specs.Prelude.{ℤ}
use Rattle.std.specs.Int.{int_div_euclid}
use Rattle.jiff_core.specs.Calendar.{IsDate}
use Rattle.cell_types.specs.Kind.{number_in, place_in_year, typed_cell, HasRealDay, IsNumberOf}
use Rattle.cell_types.specs.Laws.{NumbersStandForCells}
use Rattle.cell_types.specs.Value.{date}
use Rattle.cell_types.specs.declared.kind.NumberKind.{NumberKind}
use Rattle.cell_types.specs.declared.kind.NumberKind.TheVariants.{Integer, Decimal, Boolean, Date}

pub number-back : NumbersStandForCells → (kind : NumberKind) (number : ℤ) → IsNumberOf kind number → number_in kind (typed_cell kind number) ≡ Some number
number-back law Integer number is = law.back Integer number is
number-back law Decimal number is = law.back Decimal number is
number-back law Boolean number is = law.back Boolean number is
number-back law Date number is = law.back Date number is

pub number-real : NumbersStandForCells → (number : ℤ) → IsNumberOf Date number → HasRealDay (typed_cell Date number)
number-real law number is =
    subst HasRealDay (law.cell Date (date is.0 is.1 is.2) number is.3 (ap (λ n. Some n) (sym is.4))).1 is.3

abbrev pub IsRealDate : ℤ → Type 0
IsRealDate number = IsDate (int_div_euclid number (pos 512)) (pos (place_in_year number / 32)) (pos (place_in_year number % 32))

real_day : (kind : NumberKind) (number : ℤ) → (kind ≡ Date → IsRealDate number) → HasRealDay (typed_cell kind number)
real_day Integer number real = tt
real_day Decimal number real = tt
real_day Boolean number real = tt
real_day Date number real = real refl

pub number-stands : NumbersStandForCells → (kind : NumberKind) (number : ℤ) → number_in kind (typed_cell kind number) ≡ Some number → (kind ≡ Date → IsRealDate number) → IsNumberOf kind number
number-stands law kind number back real = (law.cell kind (typed_cell kind number) number (real_day kind number real) back).0
