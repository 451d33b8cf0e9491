use Rattle.insertion_map.proofs.KeyLemmas.{no-keys}
use Rattle.insertion_map.proofs.places.KeyPlaces.new.Goals as goal

pub invariant_of-result : goal.invariant_of-result
invariant_of-result g c = no-keys _ _ _ _ c.new.ensures.items c.new-2.ensures
