use Rattle.std.proofs.Common.{refl, subst}
use Rattle.block_eval.specs.Bounded.{joined_bounds}
use Rattle.block_eval.specs.Bounds.{AreFitting}
use Rattle.block_eval.proofs.BoundLemmas.{checked-joined, fitting-joined}
use Rattle.block_eval.proofs.bounded.join_bounded.Goals as goal

pub returns-in_ok-numbers-in-Some : goal.returns-in_ok-numbers-in-Some
returns-in_ok-numbers-in-Some c =
    let o = c.args.operator in
    let left = c.args.left.now in
    let right = c.args.right.now in
    fitting-joined o left right _ c.args.wanted.now c.in-Some.bounds refl
    (subst (AreFitting (joined_bounds o left right)) c.in-Some.is c.bounds_between.ensures) c.in_ok-numbers-in-Some.ensures

pub returns-in_ok-numbers-in-None : goal.returns-in_ok-numbers-in-None
returns-in_ok-numbers-in-None c =
    let o = c.args.operator in
    let left = c.args.left.now in
    let right = c.args.right.now in
    checked-joined o left right _ c.args.wanted.now refl
    (subst (AreFitting (joined_bounds o left right)) c.in-None.is c.bounds_between.ensures) c.in_ok-numbers-in-None.ensures
