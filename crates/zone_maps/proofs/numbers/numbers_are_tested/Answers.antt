use Rattle.zone_maps.proofs.NumberLemmas.{numbers-tested}
use Rattle.zone_maps.proofs.numbers.numbers_are_tested.Goals as goal

pub returns : goal.returns
returns c = numbers-tested c.dates_read_back.ensures c.numbers_stand_for_cells.ensures c.values_are_ordered.ensures
