use Rattle.std.proofs.Common.{subst, w64}
use Rattle.std.specs.Prelude.{FitsSigned}
use Rattle.std.proofs.lemmas.Int.{to_z-of_z}
use Rattle.cell_types.specs.Kind.{IsNumberOf}
use Rattle.block_summary.proofs.TypedNumberLemmas.{number-back, number-real}
use Rattle.block_summary.proofs.typed_number.TypedNumber.new.Goals as goal

pub invariant_of-result : goal.invariant_of-result
invariant_of-result c =
    let law = c.numbers_stand_for_cells.ensures in
    let number = c.args.number in
    let fits : FitsSigned w64 number = c.ranges.number in
    simp to_z-of_z (record {
      back = number-back law c.args.kind number c.requires;
      real = λ e. number-real law number (subst (λ k. IsNumberOf k number) e c.requires);
    })
