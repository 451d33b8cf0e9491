use Rattle.std.proofs.Common.{of_calls, map, sym, ap}
use Rattle.insertion_map.specs.Places.{hash_value}
use Rattle.insertion_map.proofs.HashLemmas.{found-by}
use Rattle.insertion_map.proofs.KeyLemmas.{any-is, place-is}
use Rattle.insertion_map.proofs.places.KeyPlaces.place_of.Goals as goal

pub returns-clause-place : goal.returns-clause-place
returns-clause-place g c =
    rw (sym (ap (λ k. k.keys) c.self.view_is))
    (place-is g.met.K.Eq.laws (λ key. hash_value (g.K.Hash.hash_input key)) (λ x y e. ap hash_value (g.met.K.Hash.respects_eq x y e)) c.self.inside.keys.items c.self.inside.places c.self.invariant c.args.key.now c.args.hash c.find.result c.requires
    (found-by _ _ _ _ _ (c.find.ensures (map (λ key. hash_value (g.K.Hash.hash_input key)) c.self.inside.keys.items) c.self.invariant.places_are) (λ p is post. search (of_calls, post) parts 8)))

pub returns-clause-found : goal.returns-clause-found
returns-clause-found g c =
    rw (sym (ap (λ k. k.keys) c.self.view_is))
    (any-is g.met.K.Eq.laws (λ key. hash_value (g.K.Hash.hash_input key)) (λ x y e. ap hash_value (g.met.K.Hash.respects_eq x y e)) c.self.inside.keys.items c.self.inside.places c.self.invariant c.args.key.now c.args.hash c.find.result c.requires
    (found-by _ _ _ _ _ (c.find.ensures (map (λ key. hash_value (g.K.Hash.hash_input key)) c.self.inside.keys.items) c.self.invariant.places_are) (λ p is post. search (of_calls, post) parts 8)))
