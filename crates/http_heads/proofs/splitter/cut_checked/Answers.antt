use Rattle.std.proofs.Common.{refl, ◌+◌, ◌<◌, ◌≤◌, ap, arith, length, take, drop}
use Rattle.std.proofs.lemmas.List.{drop-drop, drop_all}
use Rattle.http_heads.specs.declared.head.TheConstants.{MAX_HEAD}
use Rattle.http_heads.proofs.HeadLemmas.{head_places, whole_rest}
use Rattle.http_heads.proofs.CutLemmas.{before_closing, before_more, before_rest}
use Rattle.http_heads.proofs.splitter.cut_checked.Goals as goal

pub loop-heads-smaller : goal.loop-heads-smaller
loop-heads-smaller c =
    let begins = rw (c.in-Some.is, whole_rest c.loop-heads.at c.args.bytes.now) at c.in_ok-head.ensures.head in
    let short = rw (c.in-Some.is, whole_rest c.loop-heads.at c.args.bytes.now) at c.in_ok-head.ensures.within in
    let places = head_places c.loop-heads.at c.in-Some.len c.args.bytes.now _ c.loop-heads.invariant.within short begins in
    let some : 0 < c.in-Some.len = places.0 in
    let inside : c.loop-heads.at + c.in-Some.len ≤ length c.args.bytes.now = places.1 in
    omega (arith, some, inside)

pub loop-heads-preserved : goal.loop-heads-preserved
loop-heads-preserved c =
    let begins = rw (c.in-Some.is, whole_rest c.loop-heads.at c.args.bytes.now) at c.in_ok-head.ensures.head in
    let short = rw (c.in-Some.is, whole_rest c.loop-heads.at c.args.bytes.now) at c.in_ok-head.ensures.within in
    record {
      within = (head_places c.loop-heads.at c.in-Some.len c.args.bytes.now _ c.loop-heads.invariant.within short begins).1;
      before = before_more _ c.loop-heads.heads.items _ _ c.in-Some.head _ _ c.checks-closed.result c.loop-heads.invariant.before
          (rw (drop-drop c.in-Some.len c.loop-heads.at c.args.bytes.now) at begins) refl c.checks-closed.ensures c.if-closed.false
          c.in_ok-push.ensures.items;
    }

pub returns-then-closed-clause-cut : goal.returns-then-closed-clause-cut
returns-then-closed-clause-cut c =
    let begins = rw (c.in-Some.is, whole_rest c.loop-heads.at c.args.bytes.now) at c.in_ok-head.ensures.head in
    let none = ap (take MAX_HEAD) (drop_all (length c.args.bytes.now) c.args.bytes.now (omega arith)) in
    before_closing _ c.loop-heads.heads.items _ _ c.in-Some.head _ _ _ c.checks-closed.result c.loop-heads.invariant.before begins refl
    c.checks-closed.ensures c.if-closed.true c.in_ok-push.ensures.items none

pub returns-clause-cut : goal.returns-clause-cut
returns-clause-cut c =
    before_rest c.args.bytes.now c.loop-heads.heads.items (drop c.loop-heads.at c.args.bytes.now) c.loop-heads.invariant.before
    (rw (c.in_default.is, whole_rest c.loop-heads.at c.args.bytes.now) at c.in_ok-head.ensures.head)
