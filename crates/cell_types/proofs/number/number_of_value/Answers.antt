use Rattle.std.proofs.Common.{◌∙◌, sym, ap, subst, arith, rules, w64}
use Rattle.std.specs.Prelude.{FitsSigned}
use Rattle.std.proofs.lemmas.Int.{to_z-of_z}
use Rattle.cell_types.specs.Value.{value_view}
use Rattle.cell_types.specs.Kind.{FitsKind}
use Rattle.cell_types.proofs.ReadingLemmas.{date-cell, date-number}
use Rattle.cell_types.proofs.KindLemmas.{month_days}
use Rattle.cell_types.proofs.number.number_of_value.Goals as goal

pub returns-in-Date-clause-cell : goal.returns-in-Date-clause-cell
returns-in-Date-clause-cell c =
    let date = c.in-Date.date in
    let small : FitsSigned w64 c.day_number.result = search rules in
    let is = subst (λ v. FitsKind c.args.kind (value_view v)) c.in-Date.is c.requires in
    simp to_z-of_z (date-cell c.args.kind c.day_number.result date.year date.month date.day is
    (record { month_below = omega arith; day_below = omega (arith, month_days date.year date.month) }) c.day_number.ensures.value
    ∙ ap value_view (sym c.in-Date.is))

pub returns-in-Date-clause-number : goal.returns-in-Date-clause-number
returns-in-Date-clause-number c =
    let date = c.in-Date.date in
    let small : FitsSigned w64 c.day_number.result = search rules in
    let is = subst (λ v. FitsKind c.args.kind (value_view v)) c.in-Date.is c.requires in
    simp to_z-of_z (λ x e. date-number c.args.kind c.day_number.result x date.year date.month date.day is c.day_number.ensures.stands e)
