use Rattle.std.proofs.Common.{refl, ap, ◌∙◌}
use Rattle.mio.specs.Event.{event_token}
use Rattle.listen_sockets.specs.Peer.{after_event}
use Rattle.listen_sockets.specs.Sockets.{tells_listener}
use Rattle.listen_sockets.proofs.EventLemmas.{leads_first, leads_last, leads_next, same_count, tells_last, tells_next, tells_still}
use Rattle.listen_sockets.proofs.PlaceLemmas.{keeps_sockets, keeps_streams, sockets_stay}
use Rattle.listen_sockets.proofs.poller.mark.Goals as goal

pub loop-event-init : goal.loop-event-init
loop-event-init c =
    let all = c.into_iter-event-iterator.ensures.into_iter_gives.0 in
    record {
      sockets = refl;
      marks = leads_first _ _ _ all;
      listener = ap (tells_listener _) all;
    }

pub loop-event-preserved-then-not-mark : goal.loop-event-preserved-then-not-mark
loop-event-preserved-then-not-mark c =
    let event = c.in-Some.event.now in
    let held = c.loop-event.invariant in
    record {
      sockets = keeps_sockets (event_token event).0 (after_event event) _ _ (λ peer. refl) c.mark.ensures.sockets ∙ held.sockets;
      marks = leads_next event _ _ _ _ _ _ c.in-Some.ensures.steps c.mark.ensures.sockets held.marks;
      listener = tells_next _ _ event _ _ _ _ c.mark.result c.in-Some.ensures.steps (same_count _ _ held.sockets) c.mark.ensures.place c.if-not-mark.true held.listener;
    }

pub loop-event-preserved : goal.loop-event-preserved
loop-event-preserved c =
    let event = c.in-Some.event.now in
    let held = c.loop-event.invariant in
    record {
      sockets = keeps_sockets (event_token event).0 (after_event event) _ _ (λ peer. refl) c.mark.ensures.sockets ∙ held.sockets;
      marks = leads_next event _ _ _ _ _ _ c.in-Some.ensures.steps c.mark.ensures.sockets held.marks;
      listener = tells_still _ _ event _ _ _ _ c.mark.result c.in-Some.ensures.steps (same_count _ _ held.sockets) c.mark.ensures.place c.if-not-mark.false held.listener;
    }

pub returns : goal.returns
returns c = record {
  listener = tells_last _ _ _ _ c.in-None.ensures.steps.0 c.loop-event.invariant.listener;
  marks = leads_last _ _ _ _ c.in-None.ensures.steps.0 c.loop-event.invariant.marks;
  sockets = c.loop-event.invariant.sockets;
  streams = keeps_streams _ _ c.loop-event.invariant.sockets;
  stay = sockets_stay _ _ c.loop-event.invariant.sockets;
}
