use Rattle.std.proofs.Common.{◌≡◌, replicate, arith, ap, ◌∙◌}
use Rattle.odata_rounds.specs.Lives.{free_slot}
use Rattle.listen_sockets.proofs.server.Server.new.Goals as goal

pub returns-clause-free : goal.returns-clause-free
returns-clause-free c =
    let end : c.loop-place._place ≡ c.args.places = omega (arith, c.loop-place-test.false) in
    record {
      stands = c.in_ok-new.ensures;
      slots_are = c.loop-place.invariant ∙ ap (λ n. replicate n free_slot) end;
      wires_are = c.in_ok-new-2.ensures;
    }
