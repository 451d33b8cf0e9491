use Rattle.std.proofs.Common.{rules, w64}
use Rattle.std.specs.Prelude.{FitsSigned}
use Rattle.std.proofs.lemmas.Int.{to_z-of_z}
use Rattle.block_summary.proofs.TypedNumberLemmas.{number-stands}
use Rattle.block_summary.proofs.typed_number.TypedNumber.value.Goals as goal

pub typed_value-requires : goal.typed_value-requires
typed_value-requires c =
    let self = c.args.self in
    let fits : FitsSigned w64 self.number = search rules in
    simp to_z-of_z (number-stands c.numbers_stand_for_cells.ensures self.kind self.number self.back self.real)
