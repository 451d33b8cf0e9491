use Rattle.odata_hub.specs.Schedules.{conn_at}
use Rattle.listen_sockets.proofs.ServerLemmas.{told_end, told_ends, untold_end}
use Rattle.listen_sockets.proofs.server.Server.end_hopeless.Goals as goal

pub returns-then-is_hopeless-clause-ends : goal.returns-then-is_hopeless-clause-ends
returns-then-is_hopeless-clause-ends c = record {
  here = λ h s.
      told_ends (conn_at h c.args.place) c.is_hopeless.result _ _ (c.is_hopeless.ensures h s) c.if-is_hopeless.true c.end_stream.ensures.streams.ended;
  others = c.end_stream.ensures.streams.others;
}

pub returns-then-is_hopeless-clause-sockets : goal.returns-then-is_hopeless-clause-sockets
returns-then-is_hopeless-clause-sockets c = λ h s.
    told_end c.args.now c.args.place (conn_at h c.args.place) c.is_hopeless.result _ _ (c.is_hopeless.ensures h s) c.if-is_hopeless.true
    c.end_stream.ensures.sockets

pub returns-else-is_hopeless-clause-sockets : goal.returns-else-is_hopeless-clause-sockets
returns-else-is_hopeless-clause-sockets c = λ h s.
    untold_end c.args.now c.args.place (conn_at h c.args.place) c.is_hopeless.result _ (c.is_hopeless.ensures h s) c.if-is_hopeless.false
