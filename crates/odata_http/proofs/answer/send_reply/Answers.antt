use Rattle.std.proofs.Common.{[], ◌++◌, refl}
use Rattle.std.proofs.lemmas.Result.{err_from_is_err_and}
use Rattle.odata_http.proofs.SinkLemmas.{failed_front, sent_more, written_none, written_step}
use Rattle.odata_http.proofs.answer.send_reply.Goals as goal

pub loop-reply-init : goal.loop-reply-init
loop-reply-init g c = ([], refl, written_none _)

pub loop-reply-preserved : goal.loop-reply-preserved
loop-reply-preserved g c =
    let at = c.loop-reply.invariant in (
      at.0 ++ c.waiting-piece.result.now,
      sent_more at.0 c.waiting-piece.result.now c.waiting-piece.ensures.behind c.loop-reply.reply c.took-count.new.self c.args.reply c.took-count.result at.1
          c.waiting-piece.ensures.whole c.took-count.ensures.count c.took-count.ensures.left,
      written_step at.2 (record { gained = c.in_ok-send.ensures.ok; failed = c.in_ok-send.ensures.failed }),
    )

pub returns-in_err-send : goal.returns-in_err-send
returns-in_err-send g c =
    let p = err_from_is_err_and c.from_residual.result c.from_residual.ensures.1 in
    let at = c.loop-reply.invariant in
    let e = c.in_err-send.ensures.err in
    rw (p.1, p.2) (failed_front _ _ _ at.0 c.loop-reply.reply c.waiting-piece.result.now c.waiting-piece.ensures.behind c.args.reply e.0 at.1
    c.waiting-piece.ensures.whole at.2 e.1 (record { gained = e.2; failed = c.in_err-send.ensures.failed }))
