use Rattle.std.proofs.Common.{◌++◌, ◌∷◌, [], ◌-◌, ap, ◌∙◌, map, subst, sym, arith}
use Rattle.std.specs.List.{list_any}
use Rattle.std.specs.Vec.{vec_capacity, vec_len}
use Rattle.insertion_map.specs.Hashes.{ArePlaces}
use Rattle.insertion_map.specs.Places.{hash_value}
use Rattle.insertion_map.proofs.KeyLemmas.{least-less, one-key-more}
use Rattle.insertion_map.proofs.places.KeyPlaces.push.Goals as goal

pub invariant_of-self-in-Ok : goal.invariant_of-self-in-Ok
invariant_of-self-in-Ok g c =
    let keys = c.self.inside.keys.items in
    let more = c.in-Ok.ensures.pushed (map (λ key. hash_value (g.K.Hash.hash_input key)) keys) c.self.invariant.places_are in
    rw c.in_ok-push.ensures.items
    (one-key-more g.met.K.Eq.laws (λ key. hash_value (g.K.Hash.hash_input key)) (λ x y e. ap hash_value (g.met.K.Hash.respects_eq x y e)) keys c.self.inside.places c.self.invariant c.args.key c.push-2.new.self
    (ap (λ k. list_any (g.K.PartialEq.eq c.args.key) k.keys) c.self.view_is ∙ c.requires.new)
    (subst (λ h. ArePlaces c.push-2.new.self (map (λ key. hash_value (g.K.Hash.hash_input key)) keys ++ h ∷ [])) c.requires.hash more))

pub returns-in-Ok-clause-room : goal.returns-in-Ok-clause-room
returns-in-Ok-clause-room g c = rw (sym (ap (λ k. k.room) c.self.view_is))
    (least-less (vec_capacity c.self.inside.keys - vec_len c.self.inside.keys) c.self.inside.places.room (vec_capacity c.push.new.self - vec_len c.push.new.self) c.push-2.new.self.room
    (omega (arith, c.in_ok-push.ensures.capacity, c.in_ok-push.ensures.len)) c.in-Ok.ensures.room)
