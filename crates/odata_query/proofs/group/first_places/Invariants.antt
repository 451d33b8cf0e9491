use Rattle.std.proofs.Common.{◌≡◌, take}
use Rattle.std.specs.Prelude.{nat_eq}
use Rattle.odata_query.specs.FirstSeen.{first_seen}
use Rattle.odata_query.proofs.group.first_places.Given as goal

abbrev pub invariant-loop-place : goal.invariant-loop-place
invariant-loop-place l = l.made.items ≡ first_seen nat_eq (take l.place-index l.places)
