use Rattle.std.proofs.Common.{ap}
use Rattle.cell_types.specs.Value.{value_view}
use Rattle.typed_trees.specs.TypedTree.{text_view}
use Rattle.zone_maps.proofs.KnownLemmas.{texts-tell}
use Rattle.zone_maps.proofs.known.known_texts.Goals as goal

pub returns : goal.returns
returns c =
    texts-tell c.known_comparison.result c.args.operator c.in-Column.place (text_view c.args.left.now) (text_view c.args.right.now) (value_view c.in_ok-literal.literal) c.args.summary.now
    (ap text_view c.in-Column.is) c.in_ok-literal.ensures c.known_comparison.ensures
