use Rattle.std.proofs.Common.{ap, sym}
use Rattle.cell_types.specs.Value.{value_view}
use Rattle.typed_trees.specs.TypedTree.{number_view}
use Rattle.zone_maps.proofs.NumberLemmas.{numbers-tell}
use Rattle.zone_maps.proofs.known.known_numbers.Goals as goal

pub known_comparison-requires-clause-kind : goal.known_comparison-requires-clause-kind
known_comparison-requires-clause-kind c =
    (c.numbers_stand_for_cells.ensures.given c.in-Column.kind c.in_ok-number.number (value_view c.in_ok-literal.literal) (sym c.in_ok-literal.ensures)).kind_is

pub known_comparison-requires-clause-day : goal.known_comparison-requires-clause-day
known_comparison-requires-clause-day c =
    (c.numbers_stand_for_cells.ensures.given c.in-Column.kind c.in_ok-number.number (value_view c.in_ok-literal.literal) (sym c.in_ok-literal.ensures)).day

pub returns : goal.returns
returns c =
    numbers-tell c.numbers_stand_for_cells.ensures c.known_comparison.result c.in-Column.kind c.args.operator c.in-Column.place (number_view c.args.left.now)
    (number_view c.args.right.now) c.in_ok-number.number (value_view c.in_ok-literal.literal) c.args.summary.now (ap number_view c.in-Column.is) c.in_ok-number.ensures
    (sym c.in_ok-literal.ensures) c.known_comparison.ensures
