use Rattle.std.proofs.Common.{ap, ◌∙◌}
use Rattle.std.specs.Prelude.{Bool}
use Rattle.odata_hub.specs.Schedules.{conn_at}
use Rattle.listen_sockets.specs.declared.slow.Seen.{Seen}
use Rattle.listen_sockets.specs.Server.{seen_at}
use Rattle.listen_sockets.specs.Slow.{due_of, due_where}
use Rattle.listen_sockets.specs.Sockets.{is_awake_at}
use Rattle.listen_sockets.proofs.server.Server.due.Goals as goal

abbrev seen_of : Bool → Bool → Bool → Seen
seen_of crowded awake waits = record { crowded = crowded; awake = awake; waits = waits }

pub returns-in-Some : goal.returns-in-Some
returns-in-Some c = λ h s.
    c.due.ensures
    ∙ ap (λ (b : Bool). due_of c.args.limits.now (seen_of c.args.crowded b c.has_waiting.result) c.args.now c.in-Some.times) c.is_awake.ensures
    ∙ ap (λ (b : Bool). due_of c.args.limits.now (seen_of c.args.crowded (is_awake_at c.args.self.now.sockets.wires.items c.args.place) b) c.args.now c.in-Some.times) (c.has_waiting.ensures h s)
    ∙ ap (λ o. due_where c.args.limits.now (seen_at c.args.crowded (conn_at h c.args.place) c.args.self.now.sockets.wires.items c.args.place) c.args.now o)
    c.in-Some.ensures

pub returns-in-None : goal.returns-in-None
returns-in-None c = λ h s.
    ap (λ o. due_where c.args.limits.now (seen_at c.args.crowded (conn_at h c.args.place) c.args.self.now.sockets.wires.items c.args.place) c.args.now o)
    c.in-None.ensures
