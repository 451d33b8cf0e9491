use Rattle.typed_trees.specs.TypedTree.{truth_view}
use Rattle.block_filter.proofs.NarrowLemmas.{block_narrows}
use Rattle.block_filter.proofs.passing.narrow_by.Goals as goal

pub returns-in-Ok : goal.returns-in-Ok
returns-in-Ok c =
    block_narrows (truth_view c.args.condition.now) c.args.block.now.schema.columns c.args.block.now.rows c.summary.result.now c.args.columns.now c.args.wanted.now c.keep_true.new.wanted
    c.as_slice.result.now c.requires.columns c.values_fit.ensures.each c.summary.ensures.each (rw c.as_slice.ensures.value c.in-Ok.ensures) c.requires.long c.keep_true.ensures
