use Rattle.std.proofs.Common.{◌∙◌, sym, ap, arith, w64}
use Rattle.std.specs.Prelude.{FitsSigned}
use Rattle.std.proofs.lemmas.Int.{to_z-of_z}
use Rattle.cell_types.specs.Kind.{typed_cell}
use Rattle.cell_types.proofs.KindLemmas.{month_days, number-parts, typed_cell-date}
use Rattle.cell_types.proofs.kind.typed_value.Goals as goal

pub returns-in-Date : goal.returns-in-Date
returns-in-Date c =
    let date = c.day_of.result in
    let fits : FitsSigned w64 c.args.number = c.ranges.number in
    let parts = number-parts c.args.number date.year date.month date.day
    (record { month_below = omega arith; day_below = omega (arith, month_days date.year date.month) }) (simp to_z-of_z at c.day_of.ensures) in
    sym (ap (λ kind. typed_cell kind c.args.number) c.in-Date.is ∙ typed_cell-date c.args.number date.year date.month date.day parts)
