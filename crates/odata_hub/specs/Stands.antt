-- What a connection and a hub stand for, and calls as steps of that.
use Rattle.std.specs.Prelude.{◌≡◌, ⊤, ℕ, Bool, List, Option, Some, None, Result, Ok, Err, slice_get}
use Rattle.std.specs.Borrow.{Bor}
use Rattle.std.specs.List.{AllZip}
use Rattle.table_store.specs.Catalog.{CatalogOf}
use Rattle.http_heads.specs.Hopeless.{TellsHopeless}
use Rattle.query_exec.specs.declared.run_kept.RunKept.{RunKept}
use Rattle.query_exec.specs.declared.run_kept.RunKept.TheVariants.{Nothing}
use Rattle.odata_hub.specs.declared.answers.HubFault.{HubFault}
use Rattle.odata_hub.specs.declared.answers.HubFault.TheVariants.{NoSuchConnection}
use Rattle.odata_hub.specs.declared.connection.Connection.{Connection}
use Rattle.odata_hub.specs.declared.hub.Hub.{Hub}
use Rattle.odata_hub.specs.Connections.{Answer, Call, ConnOf, FlightOf, Refused, Step, Take, answer_to, is_over}
use Rattle.odata_hub.specs.Held.{FlightKeeps, IsInFlight}
use Rattle.odata_http.specs.Waiting.{IsFront}
use Rattle.odata_hub.specs.Schedules.{Event, HubOf, HubStep, On, conn_at}

-- the connection, where what it holds of an exchange stands for this one
abbrev pub conn_of : Connection → Option FlightOf → ConnOf
conn_of connection flight = record {
  rest = connection.splitter;
  waiting = connection.waiting.items;
  flight = flight;
  output = connection.output;
  closed = connection.closed;
  ended = connection.ended;
  failed = connection.failed;
}

-- the connection stands for this one
pub record ConnStandsFor (connection : Connection) (c : ConnOf) : Type 0 where
  pub flight : Option FlightOf
  pub stands : IsInFlight connection.flight flight
  pub is : c ≡ conn_of connection flight

-- a call is one step of the connection that this one stands for
abbrev pub IsConnStep : Connection → Call → Answer → Connection → Type 0
IsConnStep old call answer new = (c : ConnOf) → ConnStandsFor old c → (d : ConnOf) × Step c call answer d × ConnStandsFor new d

-- a place is free, or its connection stands for that one
abbrev pub PlaceStandsFor : Option Connection → Option ConnOf → Type 0
PlaceStandsFor None None = ⊤
PlaceStandsFor None (Some c) = ⊥
PlaceStandsFor (Some connection) None = ⊥
PlaceStandsFor (Some connection) (Some c) = ConnStandsFor connection c

-- these tables and places stand for this hub
pub record AreHub (catalog : CatalogOf) (held : List (Option Connection)) (h : HubOf) : Type 0 where
  pub tables : h.catalog ≡ catalog
  pub places : AllZip PlaceStandsFor held h.places

-- the tables that a hub answers from what comes now
abbrev pub current_tables : Hub → CatalogOf
current_tables hub = hub.catalog.value

-- and the hub for this one
abbrev pub Models : Hub → HubOf → Type 0
Models hub h = AreHub (current_tables hub) hub.places.items h

-- a call on the places under these tables is one step of the hub that they stand for: this event, answered so
abbrev pub IsPlacesStep : CatalogOf → List (Option Connection) → Event → Answer → List (Option Connection) → Type 0
IsPlacesStep catalog old event answer new = (h : HubOf) → AreHub catalog old h → (n : HubOf) × HubStep h event answer n × AreHub catalog new n

-- and a call on a hub
abbrev pub IsHubStep : Hub → Event → Answer → Hub → Type 0
IsHubStep old event answer new = (h : HubOf) → Models old h → (n : HubOf) × HubStep h event answer n × Models new n

-- whether the connection at a place is over, or that there is none
abbrev pub TellsOver : Option ConnOf → Result Bool HubFault → Type 0
TellsOver None result = result ≡ Err NoSuchConnection
TellsOver (Some c) result = result ≡ Ok (is_over c)

-- whether the rest of the connection at a place can begin no head any more, or that there is none
abbrev pub TellsHopelessAt : Option ConnOf → Result Bool HubFault → Type 0
TellsHopelessAt None result = result ≡ Err NoSuchConnection
TellsHopelessAt (Some c) result = (told : Bool) × (result ≡ Ok told) × TellsHopeless c.rest told

-- what the run of the query keeps that is in flight at a place
abbrev pub PlaceKeeps : Option (Option Connection) → RunKept → Type 0
PlaceKeeps (Some (Some connection)) kept = FlightKeeps connection.flight kept
PlaceKeeps (Some None) kept = kept ≡ Nothing
PlaceKeeps None kept = kept ≡ Nothing

-- and at a place of a hub
abbrev pub HubKeeps : Hub → ℕ → RunKept → Type 0
HubKeeps hub place kept = PlaceKeeps (slice_get hub.places.items place) kept

-- ---- output that is lent and then taken

-- first bytes of the output of what a place holds are lent, or there is none
abbrev pub LendsAt : Option ConnOf → Result (Bor (List ℕ)) HubFault → Type 0
LendsAt None result = result ≡ Err NoSuchConnection
LendsAt (Some c) result = (bytes : Bor (List ℕ)) × (result ≡ Ok bytes) × IsFront bytes.now c.output

-- of `taken` bytes of the output of what a place holds it is reported that they were taken, or that there is none
abbrev pub TellsTook : Option ConnOf → Result ⊤ HubFault → Type 0
TellsTook None result = result ≡ Err NoSuchConnection
TellsTook (Some c) result = result ≡ Ok tt

-- the step of a connection that takes `taken` bytes, of the one that this stands for
abbrev pub IsConnTook : Connection → ℕ → Connection → Type 0
IsConnTook old count new =
    (c : ConnOf) → ConnStandsFor old c → (d : ConnOf) × Step c (Take count) (answer_to c (Take count)) d × ConnStandsFor new d

-- what taking `taken` bytes answers: they are those that were lent
abbrev pub took_answer : Option ConnOf → ℕ → Answer
took_answer None count = Refused NoSuchConnection
took_answer (Some c) count = answer_to c (Take count)

-- `taken` bytes are taken from the connection at a place: one step of the hub that these tables and places stand for
abbrev pub ArePlacesTook : CatalogOf → List (Option Connection) → ℕ → ℕ → List (Option Connection) → Type 0
ArePlacesTook catalog old place count new = (h : HubOf) → AreHub catalog old h
    → (n : HubOf) × HubStep h (On place (Take count)) (took_answer (conn_at h place) count) n × AreHub catalog new n

-- and of a hub
abbrev pub IsHubTook : Hub → ℕ → ℕ → Hub → Type 0
IsHubTook old place count new = (h : HubOf) → Models old h
    → (n : HubOf) × HubStep h (On place (Take count)) (took_answer (conn_at h place) count) n × Models new n
