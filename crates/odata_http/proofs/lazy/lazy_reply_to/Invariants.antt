use Rattle.std.proofs.Common.{◌-◌}
use Rattle.odata_http.proofs.WorkLemmas.{IsUnderWay}
use Rattle.odata_http.proofs.lazy.lazy_reply_to.Given as goal

-- the lazy exchange stands for the head, and no more calls are left than are to come
abbrev pub invariant-loop-call : goal.invariant-loop-call
invariant-loop-call l = IsUnderWay l.catalog l.head (l._call-end - l._call) l.lazy.exchange
