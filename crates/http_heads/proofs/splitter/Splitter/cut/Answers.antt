use Rattle.std.proofs.Common.{refl}
use Rattle.http_heads.proofs.RestLemmas.{cut_kept, rest_kept}
use Rattle.http_heads.proofs.splitter.Splitter.cut.Goals as goal

pub invariant_of-self-in_default : goal.invariant_of-self-in_default
invariant_of-self-in_default c =
    let none = rw c.in_default.is at c.in_ok-before.ensures.ok in rw none.0 (rest_kept _ none.1)

pub returns-in_default-clause-ok : goal.returns-in_default-clause-ok
returns-in_default-clause-ok c =
    let none = rw c.in_default.is at c.in_ok-before.ensures.ok in rw (c.new.ensures.items, ← c.self.view_is) (none.0, refl, none.1)

pub invariant_of-self-in-Ok : goal.invariant_of-self-in-Ok
invariant_of-self-in-Ok c =
    rw (c.truncate.ensures.items, c.drop-drain.ensures.items, c.drain.ensures.kept)
    (cut_kept _ _ _ _ (rw c.as_slice.ensures.value at c.in-Ok.ensures.cut))
