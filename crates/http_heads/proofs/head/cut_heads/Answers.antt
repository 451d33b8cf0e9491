use Rattle.std.proofs.Common.{◌+◌, ◌<◌, ◌≤◌, arith, length}
use Rattle.std.proofs.lemmas.List.{map_push, drop-drop}
use Rattle.http_heads.specs.Head.{head_view}
use Rattle.http_heads.proofs.HeadLemmas.{all-snoc, head_places, whole_rest}
use Rattle.http_heads.proofs.head.cut_heads.Goals as goal

pub loop-heads-smaller : goal.loop-heads-smaller
loop-heads-smaller c =
    let begins = rw (c.in-Some.is, whole_rest c.loop-heads.at c.args.bytes.now) at c.in_ok-head.ensures.head in
    let short = rw (c.in-Some.is, whole_rest c.loop-heads.at c.args.bytes.now) at c.in_ok-head.ensures.within in
    let places = head_places c.loop-heads.at c.in-Some.len c.args.bytes.now _ c.loop-heads.invariant.within short begins in
    let some : 0 < c.in-Some.len = places.0 in
    let inside : c.loop-heads.at + c.in-Some.len ≤ length c.args.bytes.now = places.1 in
    omega (arith, some, inside)

pub loop-heads-preserved : goal.loop-heads-preserved
loop-heads-preserved c =
    let begins = rw (c.in-Some.is, whole_rest c.loop-heads.at c.args.bytes.now) at c.in_ok-head.ensures.head in
    let short = rw (c.in-Some.is, whole_rest c.loop-heads.at c.args.bytes.now) at c.in_ok-head.ensures.within in
    record {
      within = (head_places c.loop-heads.at c.in-Some.len c.args.bytes.now _ c.loop-heads.invariant.within short begins).1;
      begins = rw (c.in_ok-push.ensures.items, map_push head_view c.loop-heads.heads.items c.in-Some.head)
          (all-snoc _ _ _ _ _ c.loop-heads.invariant.begins (rw (drop-drop c.in-Some.len c.loop-heads.at c.args.bytes.now) at begins));
    }

pub returns-clause-none : goal.returns-clause-none
returns-clause-none c = rw (c.in_default.is, whole_rest c.loop-heads.at c.args.bytes.now) at c.in_ok-head.ensures.head
