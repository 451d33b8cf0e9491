use Rattle.zone_maps.specs.Known.{cell_at_place}
use Rattle.zone_maps.proofs.TestLemmas.{no-null}
use Rattle.zone_maps.proofs.tests.has_no_null.Goals as goal

pub returns : goal.returns
returns c = λ fails cells is. no-null (cell_at_place cells c.args.place) (c.fails_each.ensures fails cells is)
