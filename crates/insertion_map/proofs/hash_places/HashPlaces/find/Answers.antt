use Rattle.std.proofs.Common.{◌≡◌, Some, sym, ap, ◌∙◌}
use Rattle.insertion_map.specs.LastPlaces.{last_of}
use Rattle.insertion_map.proofs.HashLemmas.{find-last, found-last}
use Rattle.insertion_map.proofs.hash_places.HashPlaces.find.Goals as goal

pub find_from-requires : goal.find_from-requires
find_from-requires g c =
    let e : last_of c.args.self.now.last c.args.hash ≡ Some c.in-Some.last =
    ap (λ p. last_of p.last c.args.hash) (sym c.self.view_is) ∙ sym c.get.ensures ∙ c.in-Some.is in
    rw (c.as_slice.ensures.value ∙ ap (λ p. p.before) c.self.view_is) (find-last c.args.self.now c.args.hash _ c.in-Some.last c.requires e)

pub returns-in-Some : goal.returns-in-Some
returns-in-Some g c hashes are =
    let e : last_of c.args.self.now.last c.args.hash ≡ Some c.in-Some.last =
    ap (λ p. last_of p.last c.args.hash) (sym c.self.view_is) ∙ sym c.get.ensures ∙ c.in-Some.is in
    found-last c.args.self.now c.args.hash _ hashes are c.as_slice.result.now (c.as_slice.ensures.value ∙ ap (λ p. p.before) c.self.view_is) c.in-Some.last c.find_from.result e c.find_from.ensures
