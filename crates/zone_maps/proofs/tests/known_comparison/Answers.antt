use Rattle.cell_types.specs.Value.{value_view}
use Rattle.zone_maps.specs.Known.{cell_at_place}
use Rattle.zone_maps.proofs.TestLemmas.{comparison-known, row-day}
use Rattle.zone_maps.proofs.tests.known_comparison.Goals as goal

pub returns-in-Some : goal.returns-in-Some
returns-in-Some c = λ cells is.
    comparison-known c.numbers_stand_for_cells.ensures c.values_are_ordered.ensures c.args.kind c.args.operator (cell_at_place cells c.args.place) (value_view c.args.literal) c.in-Some.holds
    c.truth_of.result (c.are_of_kind.ensures c.if-not-are_of_kind.false cells is) c.requires.kind (row-day c.dates_read_back.ensures is.columns cells c.args.place is.fits) c.requires.day
    (c.in-Some.ensures cells is) c.truth_of.ensures
