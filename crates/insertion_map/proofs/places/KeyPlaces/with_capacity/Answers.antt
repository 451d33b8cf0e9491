use Rattle.insertion_map.proofs.KeyLemmas.{no-keys}
use Rattle.insertion_map.proofs.places.KeyPlaces.with_capacity.Goals as goal

pub invariant_of-result : goal.invariant_of-result
invariant_of-result g c = no-keys _ _ _ _ c.in_ok-keys.ensures.items c.in_ok-places.ensures.places
