use Rattle.std.proofs.Common.{◌∙◌, ap, ap₂, arith, rules, sym, w64}
use Rattle.std.specs.Prelude.{FitsSigned, Some}
use Rattle.std.proofs.lemmas.Int.{ints, to_z-of_z}
use Rattle.cell_types.specs.Kind.{typed_cell}
use Rattle.cell_types.specs.Value.{date as day}
use Rattle.cell_types.specs.declared.kind.NumberKind.TheVariants.{Date}
use Rattle.block_summary.proofs.typed_number.TypedNumber.of_day.Goals as goal

pub returns : goal.returns
returns c =
    let date = c.args.date in
    let small : FitsSigned w64 c.day_number.result = search rules in
    ap₂ typed_cell c.new.ensures.kind (simp to_z-of_z at c.new.ensures.number)
    ∙ sym (c.numbers_stand_for_cells.ensures.cell Date (day date.year date.month date.day) c.day_number.result
    (date.year_in, (omega (arith, ints), omega (arith, ints)), (omega (arith, ints), omega (arith, ints))) (ap (λ n. Some n) (sym c.day_number.ensures.value))).1
