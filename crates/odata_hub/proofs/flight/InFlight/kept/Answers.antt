use Rattle.std.proofs.Common.{subst}
use Rattle.odata_http.specs.Lazy.{KeepsLazily}
use Rattle.odata_hub.specs.Held.{FlightHeld}
use Rattle.odata_hub.proofs.flight.InFlight.kept.Goals as goal

pub returns : goal.returns
returns c = subst (λ (held : FlightHeld). KeepsLazily held.exchange c.kept.result) c.self.view_is c.kept.ensures
