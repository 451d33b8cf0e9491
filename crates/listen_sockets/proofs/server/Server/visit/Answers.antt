use Rattle.std.proofs.Common.{arith}
use Rattle.listen_sockets.proofs.ServerLemmas.{visit_back, visits_nowhere}
use Rattle.listen_sockets.proofs.server.Server.visit.Goals as goal

pub returns-then-place-places-clause-visit : goal.returns-then-place-places-clause-visit
returns-then-place-places-clause-visit c =
    visit_back _ _ _ _ _ _ _ _ _ c.deref_mut.ensures.value c.deref_mut.ensures.len c.visit_place.ensures.len c.visit_place.ensures.visit

pub returns-else-place-places-clause-visit : goal.returns-else-place-places-clause-visit
returns-else-place-places-clause-visit c = visits_nowhere c.args.place _ (omega (arith, c.places.ensures))
