-- How much a query may keep before its reply begins, and what is done with one that keeps more.
use Rattle.std.specs.Prelude.{◌≡◌, ℕ, Bool, false, MatchBool, nat_lt}
use Rattle.query_exec.specs.declared.run_kept.RunKept.{RunKept}
use Rattle.query_exec.specs.declared.run_kept.RunKept.TheVariants.{Groups, Nothing, Ordered}
use Rattle.odata_hub.specs.Stands.{HubKeeps}
use Rattle.listen_sockets.specs.declared.server.Server.{Server}
use Rattle.odata_listen.specs.declared.limits.KeptLimits.{KeptLimits}
use Rattle.odata_listen.specs.Serving.{Frees}

-- whether more is kept than may be
abbrev pub are_passed : KeptLimits → RunKept → Bool
are_passed limits Nothing = false
are_passed limits (Ordered rows) = nat_lt limits.ordered rows
are_passed limits (Groups groups) = nat_lt limits.groups groups

-- a place is given back whose query keeps more than it may, and there alone something is done
pub record EndsOver (limits : KeptLimits) (place : ℕ) (old new : Server) : Type 0 where
  pub kept : RunKept
  pub is : HubKeeps old.hub place kept
  pub ends : MatchBool (are_passed limits kept) (Frees place old new) (new ≡ old)
