use Rattle.cell_types.specs.Value.{value_view}
use Rattle.zone_maps.specs.Known.{cell_at_place}
use Rattle.zone_maps.proofs.TestLemmas.{no-other}
use Rattle.zone_maps.proofs.tests.is_each.Goals as goal

pub returns : goal.returns
returns c = λ fails cells is. no-other c.values_are_ordered.ensures (cell_at_place cells c.args.place) (value_view c.args.value) (c.fails_each.ensures fails cells is)
