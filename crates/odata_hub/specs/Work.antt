-- What one turn makes of an exchange and of a connection.
use Rattle.std.specs.Prelude.{◌≡◌, ◌<◌, ◌-◌, ℕ, true, Option, if◌then◌else◌}
use Rattle.odata_http.specs.Exchange.{HeadTakes}
use Rattle.odata_hub.specs.declared.answers.Turned.{Turned}
use Rattle.odata_hub.specs.declared.answers.Turned.TheVariants.{Idle, Worked}
use Rattle.odata_hub.specs.declared.connection.Connection.{Connection}
use Rattle.odata_hub.specs.declared.flight.Gone.{Gone}
use Rattle.odata_hub.specs.declared.flight.Gone.TheVariants.{On, Replied}
use Rattle.odata_hub.specs.Streams.{Asked}
use Rattle.odata_hub.specs.Replies.{IsReplyTo}
use Rattle.odata_hub.specs.Connections.{FlightOf, IsTurned, works}
use Rattle.odata_hub.specs.Held.{FlightHeld, IsFlight, IsInFlight}
use Rattle.odata_hub.specs.Stands.{conn_of}

-- there was something to do
abbrev pub FoundWork : Connection → Option FlightOf → Type 0
FoundWork old f = works (conn_of old f) ≡ true

-- the output is as it was, and whether a closing head was cut off and the stream ended: what is left when memory ran out
abbrev pub KeepsOutput : Connection → Connection → Type 0
KeepsOutput old new = (new.output ≡ old.output) × (new.closed ≡ old.closed) × (new.ended ≡ old.ended)

-- all calls of the exchange are left
pub record BeginsFlight (a : Asked) (held : FlightHeld) : Type 0 where
  pub calls : ℕ
  pub takes : HeadTakes a.catalog a.head calls
  pub is : IsFlight held (record { asked = a; left = calls })

-- one call was made, or it was the last, and this is the reply
abbrev pub GoesOnTo : FlightOf → Gone → Type 0
GoesOnTo f (On held) = (1 < f.left) × IsFlight held (record { asked = f.asked; left = f.left - 1 })
GoesOnTo f (Replied bytes) = (f.left ≡ 1) × IsReplyTo f.asked bytes

-- one turn was made of the connection, where what it held of an exchange stood for this one
pub record IsWorked (old : Connection) (f : Option FlightOf) (went : Turned) (new : Connection) : Type 0 where
  pub next : Option FlightOf
  pub stands : IsInFlight new.flight next
  pub turned : IsTurned (conn_of old f) (conn_of new next)
  pub went_is : went ≡ (if works (conn_of old f) then Worked else Idle)
