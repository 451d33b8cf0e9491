use Rattle.std.proofs.Common.{ap, ◌∙◌, arith}
use Rattle.row_eval.specs.Logic.{truth_of}
use Rattle.block_eval.proofs.items.find_same.Goals as goal

pub returns : goal.returns
returns c =
    λ known list has row less lies.
    c.loop-row.invariant row (omega (arith, less)) ∙ c.truth_of-found.ensures ∙ ap truth_of (c.has.ensures known list has lies)
