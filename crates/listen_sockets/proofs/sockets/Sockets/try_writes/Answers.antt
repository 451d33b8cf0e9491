use Rattle.std.proofs.Common.{refl, ◌∙◌, arith}
use Rattle.listen_sockets.specs.Peer.{before_try}
use Rattle.listen_sockets.specs.Sockets.{with_peer}
use Rattle.listen_sockets.proofs.PlaceLemmas.{all_changed, one_more}
use Rattle.listen_sockets.proofs.sockets.Sockets.try_writes.Goals as goal

pub loop-place-init : goal.loop-place-init
loop-place-init c = record { tried = refl; streams = λ place. refl; stay = λ place. refl }

pub loop-place-preserved : goal.loop-place-preserved
loop-place-preserved c =
    let before = c.loop-place.invariant in
    record {
      tried = one_more (with_peer before_try) c.loop-place.place _ _ _ _ (omega arith) before.tried c.try_write.ensures.sockets;
      streams = λ place. c.try_write.ensures.streams place ∙ before.streams place;
      stay = λ place. c.try_write.ensures.stay place ∙ before.stay place;
    }

pub returns : goal.returns
returns c = record {
  sockets = c.loop-place.invariant.tried ∙ all_changed (with_peer before_try) c.loop-place.place _ (omega (arith, c.loop-place-test.false));
  streams = c.loop-place.invariant.streams;
  stay = c.loop-place.invariant.stay;
}
