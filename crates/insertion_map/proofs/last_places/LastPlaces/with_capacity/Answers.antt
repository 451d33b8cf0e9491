use Rattle.std.proofs.Common.{◌≤◌, sym, subst}
use Rattle.std.specs.HashMap.{spare}
use Rattle.insertion_map.specs.LastPlaces.{first_room}
use Rattle.insertion_map.proofs.last_places.LastPlaces.with_capacity.Goals as goal

pub returns-clause-room : goal.returns-clause-room
returns-clause-room c = subst (λ parts. c.args.hashes ≤ first_room parts (spare c.in_ok-first.first)) (sym c.new.ensures.items) c.in_ok-first.ensures.spare
