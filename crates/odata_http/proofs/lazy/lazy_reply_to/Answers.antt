use Rattle.std.proofs.Common.{List, ℕ, subst, sym, arith}
use Rattle.odata_http.specs.Lazy.{answers}
use Rattle.odata_http.specs.Reply.{IsReply}
use Rattle.odata_http.proofs.LazyLemmas.{calls_end, calls_on, is_begun, is_left}
use Rattle.odata_http.proofs.WorkLemmas.{IsUnderWay}
use Rattle.odata_http.proofs.lazy.lazy_reply_to.Goals as goal

pub loop-call-init : goal.loop-call-init
loop-call-init c =
    let counted = c.most_calls-call-end.ensures in
    subst (λ (most : ℕ). IsUnderWay c.args.catalog.now c.args.head.now most c.in_ok-lazy.lazy.exchange) (omega (arith, counted))
    (is_begun c.args.catalog.now c.args.head.now c.in_ok-lazy.lazy c.in_ok-lazy.ensures)

pub advance-requires : goal.advance-requires
advance-requires c = let on = c.loop-call.invariant in answers c.args.head.now on.left on.answers

pub loop-call-preserved : goal.loop-call-preserved
loop-call-preserved c =
    let on = c.loop-call.invariant in
    calls_on c.args.catalog.now c.args.head.now _ _ c.loop-call.lazy.exchange c.advance.new.self.exchange _ on c.in-Ok-More.field-0-is (omega arith)
    (c.in-Ok-More.ensures.goes_on c.args.head.now on.left on.answers)

pub reply-requires : goal.reply-requires
reply-requires c =
    let on = c.loop-call.invariant in
    let over = calls_end c.args.catalog.now c.args.head.now on.left c.advance.new.self.exchange _ c.in-Ok-Done.field-0-is
    (c.in-Ok-Done.ensures.goes_on c.args.head.now on.left on.answers) in
    (over.0, over.2)

pub returns-in-Ok-Done : goal.returns-in-Ok-Done
returns-in-Ok-Done c =
    let on = c.loop-call.invariant in
    let over = calls_end c.args.catalog.now c.args.head.now on.left c.advance.new.self.exchange _ c.in-Ok-Done.field-0-is
    (c.in-Ok-Done.ensures.goes_on c.args.head.now on.left on.answers) in
    subst (λ (bytes : List ℕ). IsReply c.args.catalog.now c.args.head.now bytes) (sym (c.reply.ensures over.0 over.2)) over.1

pub unreachable-requires : goal.unreachable-requires
unreachable-requires c =
    let some = is_left c.args.catalog.now c.args.head.now _ c.loop-call.lazy.exchange c.loop-call.invariant in
    omega (arith, some)
