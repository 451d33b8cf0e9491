use Rattle.std.proofs.Common.{sym, ap, ◌∙◌}
use Rattle.cell_types.specs.Boolean.{truth_reading}
use Rattle.cell_types.specs.Cell.{typed_value}
use Rattle.cell_types.specs.Datatype.{boolean_view}
use Rattle.cell_types.proofs.PlainLemmas.{standard-normal}
use Rattle.cell_types.proofs.plain.normal_truth.Goals as goal

pub returns-in-Standard-clause-normal : goal.returns-in-Standard-clause-normal
returns-in-Standard-clause-normal c =
    standard-normal c.args.text.now c.in_ok-truth.truth
    (ap (λ form. typed_value (boolean_view form) c.args.text.now) (sym c.in-Standard.is) ∙ sym c.truth_of.ensures ∙ ap truth_reading c.in_ok-truth.was)
