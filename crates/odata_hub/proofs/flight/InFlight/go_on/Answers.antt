use Rattle.odata_hub.proofs.FlightLemmas.{done_now, may_go_on, on_more, replies_now}
use Rattle.odata_hub.proofs.flight.InFlight.go_on.Goals as goal

pub invariant_of-result : goal.invariant_of-result
invariant_of-result c =
    may_go_on _ _ _ _ _ c.deref.ensures c.self.invariant c.in_ok-advance.ensures.goes_on c.in_ok-advance.ensures.done c.in_ok-advance.ensures.failed c.in-More.is

pub reply-requires : goal.reply-requires
reply-requires c =
    done_now _ _ _ _ _ c.deref.ensures c.self.invariant c.in_ok-advance.ensures.goes_on c.in_ok-advance.ensures.done c.in_ok-advance.ensures.failed c.in-Done.is

pub returns-in-More : goal.returns-in-More
returns-in-More c = on_more _ _ _ _ _ _ c.deref.ensures c.self.view_is c.in_ok-advance.ensures.goes_on c.in-More.is

pub returns-in-Done : goal.returns-in-Done
returns-in-Done c = replies_now _ _ _ _ _ _ c.reply.result c.deref.ensures c.self.view_is c.in_ok-advance.ensures.goes_on c.in-Done.is c.reply.ensures
