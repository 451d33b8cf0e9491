use Rattle.std.proofs.lemmas.Result.{err_from_is_err_and}
use Rattle.odata_http.proofs.AnswerLemmas.{all_none, all_more, heads_at, heads_more, stops_unmade, stops_untaken}
use Rattle.odata_http.proofs.HeadLemmas.{small_at}
use Rattle.odata_http.proofs.answer.answer_heads.Goals as goal

pub lazy_reply_to-requires : goal.lazy_reply_to-requires
lazy_reply_to-requires g c = small_at c.args.heads.now c.loop-head.head-index c.head-item.result c.loop-head-test.true c.head-item.is c.requires

pub loop-head-init : goal.loop-head-init
loop-head-init g c = all_none _ _ _

pub returns-in_err-reply : goal.returns-in_err-reply
returns-in_err-reply g c =
    let p = err_from_is_err_and c.from_residual.result c.from_residual.ensures.1 in
    let at = heads_at c.args.heads.now c.loop-head.head-index c.head-item.result c.loop-head-test.true c.head-item.is in
    rw p.1 (stops_unmade _ at c.loop-head.invariant p.2)

pub returns-in_err-put : goal.returns-in_err-put
returns-in_err-put g c =
    let p = err_from_is_err_and c.from_residual-in_err-put.result c.from_residual-in_err-put.ensures.1 in
    let at = heads_at c.args.heads.now c.loop-head.head-index c.head-item.result c.loop-head-test.true c.head-item.is in
    rw (p.1, p.2) (stops_untaken _ at c.loop-head.invariant c.in_ok-reply.ensures c.in_err-put.ensures)

pub loop-head-preserved : goal.loop-head-preserved
loop-head-preserved g c =
    let more = heads_more c.args.heads.now c.loop-head.head-index c.head-item.result c.loop-head-test.true c.head-item.is in
    rw more (all_more c.loop-head.invariant c.in_ok-reply.ensures c.in_ok-put.ensures)
