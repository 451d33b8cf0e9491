use Rattle.std.proofs.lemmas.List.{map-append}
use Rattle.std.proofs.lemmas.Result.{err_from_is_err_and}
use Rattle.odata_parse.proofs.ListLemmas.{Midway-init, Midway-more, Midway-found, Midway-only, none_next}
use Rattle.odata_parse.proofs.list.list.Goals as goal

pub loop-items-init : goal.loop-items-init
loop-items-init g c =
    rw (c.in_ok-push.ensures.items, c.new-items.ensures.items) (Midway-init _ _ _ _ _ c.requires c.in_ok-read.ensures.found c.in_ok-read.ensures.each c.in_ok-read.ensures.shorter)

pub loop-items-preserved : goal.loop-items-preserved
loop-items-preserved g c =
    rw (c.in_ok-push-2.ensures.items, map-append) (Midway-more _ _ _ _ _ _ _ _ _ c.requires c.loop-items.invariant c.in-Some.ensures.some.0 c.in-Some.ensures.some.1 c.in_ok-read-2.ensures.found c.in_ok-read-2.ensures.each c.in_ok-read-2.ensures.shorter)

pub returns-in_err-read-2-clause-each : goal.returns-in_err-read-2-clause-each
returns-in_err-read-2-clause-each g c =
    let p = err_from_is_err_and c.from_residual-in_err-read-2.result c.from_residual-in_err-read-2.ensures.1 in
    rw (p.1, p.2) (none_next _ _ _ _ _ _ _ _ c.requires c.loop-items.invariant c.in-Some.ensures.some.0 c.in-Some.ensures.some.1 c.in_err-read-2.ensures.each)

pub returns-clause-found : goal.returns-clause-found
returns-clause-found g c = rw (c.in_default.ensures.none.0) (Midway-found _ _ _ _ _ c.loop-items.invariant)

pub returns-clause-each : goal.returns-clause-each
returns-clause-each g c = rw (c.in_default.ensures.none.0) (Midway-only _ _ _ _ _ c.loop-items.invariant c.in_default.ensures.none.1)
