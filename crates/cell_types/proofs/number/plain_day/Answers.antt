use Rattle.std.proofs.Common.{◌≡◌, ℤ, Option, Some, Ok, ◌∙◌, sym, ap, subst, arith, rules, w64}
use Rattle.std.specs.Prelude.{FitsSigned}
use Rattle.std.proofs.lemmas.Int.{to_z-of_z}
use Rattle.cell_types.specs.Kind.{IsNumberOf}
use Rattle.cell_types.specs.declared.kind.NumberKind.TheVariants.{Date}
use Rattle.cell_types.proofs.KindLemmas.{month_days, number-parts, typed_cell-date}
use Rattle.cell_types.proofs.number.plain_day.Goals as goal

pub returns-in-Some-clause-value : goal.returns-in-Some-clause-value
returns-in-Some-clause-value c =
    let date = c.in-Some.date in
    let small : FitsSigned w64 c.day_number.result = search rules in
    let parts = number-parts c.day_number.result date.year date.month date.day
    (record { month_below = omega arith; day_below = omega (arith, month_days date.year date.month) }) c.day_number.ensures.value in
    simp to_z-of_z (c.in-Some.ensures.value ∙ ap (λ value. Ok value) (sym (typed_cell-date c.day_number.result date.year date.month date.day parts)))

same-number : (number x : ℤ) → ◌≡◌ {A = Option ℤ} (Some number) (Some x) → IsNumberOf Date number → IsNumberOf Date x
same-number number x e is = let same : number ≡ x = cc in subst (IsNumberOf Date) same is

pub returns-in-Some-clause-number : goal.returns-in-Some-clause-number
returns-in-Some-clause-number c =
    let small : FitsSigned w64 c.day_number.result = search rules in
    simp to_z-of_z (λ x e. same-number c.day_number.result x e c.day_number.ensures.stands)
