-- What a connection holds of an exchange in flight.
use Rattle.std.specs.Prelude.{◌≡◌, ⊤, Option, Some, None}
use Rattle.table_store.specs.Catalog.{CatalogOf}
use Rattle.odata_http.specs.declared.lazy.LazyExchange.{LazyExchange}
use Rattle.query_exec.specs.declared.run_kept.RunKept.{RunKept}
use Rattle.query_exec.specs.declared.run_kept.RunKept.TheVariants.{Nothing}
use Rattle.odata_http.specs.Lazy.{AnswersLazily, KeepsLazily}
use Rattle.odata_hub.specs.Connections.{FlightOf}

-- the exchange, and the tables that it goes on under
pub record FlightHeld : Type 0 where
  pub catalog : CatalogOf
  pub exchange : LazyExchange

-- It stands for this exchange in flight: for that head under its tables, `left` calls before its reply.
pub record IsFlight (held : FlightHeld) (f : FlightOf) : Type 0 where
  pub tables : held.catalog ≡ f.asked.catalog
  pub answers : AnswersLazily held.catalog f.asked.head f.left held.exchange

-- the same where there may be none
abbrev pub IsInFlight : Option FlightHeld → Option FlightOf → Type 0
IsInFlight None None = ⊤
IsInFlight None (Some f) = ⊥
IsInFlight (Some held) None = ⊥
IsInFlight (Some held) (Some f) = IsFlight held f

-- what the run of the query in flight keeps; without one it is nothing
abbrev pub FlightKeeps : Option FlightHeld → RunKept → Type 0
FlightKeeps None kept = kept ≡ Nothing
FlightKeeps (Some held) kept = KeepsLazily held.exchange kept
