use Rattle.insertion_map.proofs.HashLemmas.{found-before}
use Rattle.insertion_map.proofs.hash_places.+find_from.Goals as goal

pub returns-then-earlier-place : goal.returns-then-earlier-place
returns-then-earlier-place g t c = found-before _ c.args.before.now c.args.place c.if-test.ensures c.find_from.result c.if-earlier-place.true c.find_from.ensures
