-- The numbers left decide.
use Rattle.std.proofs.Common.{◌≡◌, drop}
use Rattle.std.specs.List.{list_any}
use Rattle.std.specs.Prelude.{nat_eq}
use Rattle.odata_query.proofs.group.is_among.Given as goal

abbrev pub invariant-loop-other : goal.invariant-loop-other
invariant-loop-other l = list_any (λ p. nat_eq p l.place) l.places ≡ list_any (λ p. nat_eq p l.place) (drop l.other-index l.places)
