use Rattle.odata_hub.proofs.flight.cut_into.Goals as goal

pub wait_all-requires : goal.wait_all-requires
wait_all-requires c = c.cuts_are_small.ensures _ _ _ _ c.in_ok-cut.ensures.ok
