use Rattle.std.proofs.Common.{◌≡◌, ◌∙◌, [], get_or, map, subst, sym, ap}
use Rattle.cell_types.specs.Value.{value_view}
use Rattle.typed_trees.specs.TypedTree.{truth_view}
use Rattle.row_eval.specs.Bounds.{TruthFits}
use Rattle.sort_rows.proofs.NumberLemmas.{row_there}
use Rattle.sort_rows.proofs.passing.truth_on.Goals as goal

pub eval_truth-requires : goal.eval_truth-requires
eval_truth-requires c =
    let there = row_there c.args.columns.now.rows c.args.number (map value_view c.in_ok-row.row.items) c.in_ok-row.ensures in
    let same : get_or c.args.columns.now.rows c.args.number [] ≡ map value_view c.as_slice.result.now = there ∙ ap (map value_view) (sym c.as_slice.ensures.value) in
    subst (TruthFits (truth_view c.args.condition.now)) same c.requires.fits
