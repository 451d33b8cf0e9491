use Rattle.std.proofs.Common.{List, refl, subst, sym, ◌∙◌}
use Rattle.odata_hub.specs.Connections.{Done, call_answer}
use Rattle.listen_sockets.specs.declared.sockets.Wire.{Wire}
use Rattle.listen_sockets.specs.Sockets.{IsPut}
use Rattle.odata_listen.specs.Serving.{gives_back, opens}
use Rattle.odata_listen.proofs.ServingLemmas.{on_given, on_join, on_kept, on_open, takes_open}
use Rattle.odata_listen.proofs.serving.open.Goals as goal

pub returns-in_default : goal.returns-in_default
returns-in_default c =
    let o = c.open.ensures in record {
      runs = on_open _ _ c.open.result o.step o.slots o.kept o.others o.sockets;
      peer = takes_open c.args.peer _ _ c.open.result o.step o.peer;
    }

pub returns-then-register : goal.returns-then-register
returns-then-register c =
    let o = c.open.ensures in
    let P : List Wire → Type 0 = λ wires. IsPut c.in-Ok.field-0.0 c.args.peer c.args.server.now.sockets.wires.items wires in record {
      runs = on_join _ c.open.new.self _ (on_open _ _ c.open.result o.step o.slots o.kept o.others o.sockets)
          (on_kept _ _ (record { hub = refl; slots = refl; stay = c.register.ensures.stay }));
      peer = opens c.in-Ok.field-0.0 c.in-Ok.ensures.step (subst P (sym c.register.ensures.sockets) c.in-Ok.ensures.peer);
    }

pub returns : goal.returns
returns c =
    let o = c.open.ensures in record {
      runs = on_join _ c.open.new.self _ (on_open _ _ c.open.result o.step o.slots o.kept o.others o.sockets)
          (on_given c.in-Ok.field-0.0 (call_answer (λ _. Done) c.free.result) c.open.new.self _ c.free.ensures.step c.free.ensures.slots
          (λ other away. c.free.ensures.others other away ∙ c.register.ensures.stay other));
      peer = gives_back c.in-Ok.field-0.0 c.open.new.self.hub (call_answer (λ _. Done) c.free.result) c.in-Ok.ensures.step c.free.ensures.step;
    }
