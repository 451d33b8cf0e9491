-- What the state of a session says.
use Rattle.std.specs.Prelude.{Bool, true, false}
use Rattle.odata_http.specs.declared.session.State.{State}
use Rattle.odata_http.specs.declared.session.State.TheVariants.{Live, Ended, Failed}

abbrev pub has_ended : State → Bool
has_ended Live = false
has_ended Ended = true
has_ended Failed = false

abbrev pub has_failed : State → Bool
has_failed Live = false
has_failed Ended = false
has_failed Failed = true
