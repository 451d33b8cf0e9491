-- Values that are compared as numbers.
use Rattle.std.proofs.Common.{◌≡◌, ◌≤◌, ℕ, ℤ, Some, None, refl, sym, ap, subst, arith}
use Rattle.std.specs.Prelude.{IfSome}
use Rattle.jiff_core.specs.Calendar.{days_in_month}
use Rattle.cell_types.specs.Kind.{number_of_day}
use Rattle.cell_types.specs.Value.{CellValue, boolean, date, decimal, integer, null, value_view}
use Rattle.cell_types.specs.declared.kind.NumberKind.{NumberKind}
use Rattle.cell_types.specs.declared.kind.NumberKind.TheVariants as numbers
use Rattle.cell_types.specs.declared.value.Value.{Value}
use Rattle.cell_types.specs.declared.value.Value.TheVariants.{Date}
use Rattle.typed_trees.specs.TypedTree.{DayOf, date_literal, null_date, null_number, number_literal}
use Rattle.row_eval.specs.Laws.{DatesAreCompared, IsCalendarDay}
use Rattle.row_eval.specs.Outcome.{day_value}
use Rattle.row_eval.specs.Row.{day_in, number_in}
use Rattle.sort_rows.specs.Cutoffs.{ComparesAs}
use Rattle.sort_rows.proofs.ColumnTestLemmas.{dates_compared, decimals_compared, integers_compared, truths_compared}

-- a null, and a value of the kind, are compared as their numbers
pub null_as_number : DatesAreCompared → (kind : NumberKind) → ComparesAs kind null null_number
null_as_number law numbers.Integer o col = integers_compared o col null_number None (λ row. refl) (λ row. tt)
null_as_number law numbers.Decimal o col = decimals_compared o col null_number None (λ row. refl) (λ row. tt)
null_as_number law numbers.Boolean o col = truths_compared o col null_number None (λ row. refl) (λ row. tt)
null_as_number law numbers.Date o col = dates_compared law o col null_date None (λ row. refl) tt (λ row. tt)

value_as_number : DatesAreCompared → (kind : NumberKind) (v : CellValue) (n : ℤ) → number_in kind v ≡ Some n → IfSome (day_in v) IsCalendarDay → ComparesAs kind v (number_literal n)
value_as_number law numbers.Integer (integer z) n e days =
    let same : z ≡ n = cc in
    subst (λ m. ComparesAs numbers.Integer (integer m) (number_literal n)) (sym same) (λ o col. integers_compared o col (number_literal n) (Some n) (λ row. refl) (λ row. tt))
value_as_number law numbers.Integer v n e days = absurd (cc)
value_as_number law numbers.Decimal (decimal z) n e days =
    let same : z ≡ n = cc in
    subst (λ m. ComparesAs numbers.Decimal (decimal m) (number_literal n)) (sym same) (λ o col. decimals_compared o col (number_literal n) (Some n) (λ row. refl) (λ row. tt))
value_as_number law numbers.Decimal v n e days = absurd (cc)
value_as_number law numbers.Boolean (boolean b) n e days = λ o col. truths_compared o col (number_literal n) (Some b) (λ row. ap Some (sym e)) (λ row. tt)
value_as_number law numbers.Boolean v n e days = absurd (cc)
value_as_number law numbers.Date (date y m d) n e days =
    let day : DayOf = record { year = y; month = m; day = d } in
    let same : number_of_day day ≡ n = cc in
    subst (λ z. ComparesAs numbers.Date (day_value day) (number_literal z)) same (λ o col. dates_compared law o col (date_literal day) (Some day) (λ row. refl) days (λ row. tt))
value_as_number law numbers.Date v n e days = absurd (cc)

month_days : (year : ℤ) (month : ℕ) → days_in_month year month ≤ 31
month_days year month = grind arith

-- the days of values are days of the calendar
value_days : (v : Value) → IfSome (day_in (value_view v)) IsCalendarDay
value_days (Date d) = (omega (arith, d.month_in.1), omega (arith, d.day_in.1, month_days d.year d.month))
value_days v = tt

pub given_as_number : DatesAreCompared → (kind : NumberKind) (v : Value) (n : ℤ) → number_in kind (value_view v) ≡ Some n → ComparesAs kind (value_view v) (number_literal n)
given_as_number law kind v n e = value_as_number law kind (value_view v) n e (value_days v)
