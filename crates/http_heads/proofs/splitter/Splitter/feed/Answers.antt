use Rattle.http_heads.proofs.RestLemmas.{rest_kept, splits_none}
use Rattle.http_heads.proofs.splitter.Splitter.feed.Goals as goal

pub invariant_of-self-in_default : goal.invariant_of-self-in_default
invariant_of-self-in_default c =
    let none = rw c.in_default.is at c.in_ok-before.ensures.ok in rw none.0 (rest_kept _ none.1)

pub returns-in_default-clause-heads : goal.returns-in_default-clause-heads
returns-in_default-clause-heads c =
    let none = rw c.in_default.is at c.in_ok-before.ensures.ok in
    rw (c.new.ensures.items, ← c.self.view_is) (splits_none c.self.inside.rest.items c.args.piece.now _ none.1 none.0)

pub invariant_of-self-in-Ok : goal.invariant_of-self-in-Ok
invariant_of-self-in-Ok c =
    rw (c.truncate.ensures.items, c.drop-drain.ensures.items, c.drain.ensures.kept)
    (rest_kept _ (rw c.as_slice.ensures.value at c.in-Ok.ensures.none))
