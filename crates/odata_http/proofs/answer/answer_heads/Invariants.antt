use Rattle.std.proofs.Common.{take}
use Rattle.odata_http.specs.Reply.{IsReply}
use Rattle.odata_http.specs.Answer.{AnswersAll}
use Rattle.odata_http.proofs.answer.answer_heads.Given as goal

-- the first heads were answered
abbrev pub invariant-loop-head : goal.invariant-loop-head
invariant-loop-head g l =
    AnswersAll (IsReply l.catalog) g.O.Outlet.takes (take l.head-index l.heads) l.fn.out l.out
