-- Steps of a connection by what it is: failed, ended, closed or none of these.
use Rattle.std.proofs.Common.{◌≡◌, ℕ, true, false, List, Option, None, refl, sym, subst, inl, inr}
use Rattle.table_store.specs.Catalog.{CatalogOf}
use Rattle.http_heads.proofs.CaseLaws.{MatchBool-from_false}
use Rattle.odata_hub.specs.declared.answers.HubFault.TheVariants.{Ended, Failed, NoMemory}
use Rattle.odata_hub.specs.declared.answers.Turned.{Turned}
use Rattle.odata_hub.specs.declared.answers.Turned.TheVariants.{Idle, Worked}
use Rattle.odata_hub.specs.declared.connection.Connection.{Connection}
use Rattle.odata_hub.specs.Connections.{ConnOf, FlightOf, Call, Piece, End, Turn, Answer, Done, Went, Refused, IsFed, IsFailed, IsTurned, works, Step}
use Rattle.odata_hub.specs.Held.{FlightHeld, IsInFlight}
use Rattle.odata_hub.specs.Stands.{IsConnStep, conn_of}
use Rattle.std.specs.Prelude.{if◌then◌else◌}

pub piece_failed : (c : ConnOf) (catalog : CatalogOf) (bytes : List ℕ) → c.failed ≡ true → Step c (Piece catalog bytes) (Refused Failed) c
piece_failed c catalog bytes e = inl (rw e refl, rw e refl)

pub piece_ended : (c : ConnOf) (catalog : CatalogOf) (bytes : List ℕ) → c.failed ≡ false → c.ended ≡ true
    → Step c (Piece catalog bytes) (Refused Ended) c
piece_ended c catalog bytes e f = inl (rw (e, f) refl, rw (e, f) refl)

pub piece_closed : (c : ConnOf) (catalog : CatalogOf) (bytes : List ℕ) → c.failed ≡ false → c.ended ≡ false → c.closed ≡ true
    → Step c (Piece catalog bytes) Done c
piece_closed c catalog bytes e f g = inl (rw (e, f) refl, rw (e, f, g) refl)

pub piece_fed : (c d : ConnOf) (catalog : CatalogOf) (bytes : List ℕ) → c.failed ≡ false → c.ended ≡ false → c.closed ≡ false
    → IsFed c catalog bytes d → Step c (Piece catalog bytes) Done d
piece_fed c d catalog bytes e f g x = inl (rw (e, f) refl, MatchBool-from_false _ _ c.failed e (MatchBool-from_false _ _ c.ended f (MatchBool-from_false _ _ c.closed g x)))

pub piece_wants : (c d : ConnOf) (catalog : CatalogOf) (bytes : List ℕ) → c.failed ≡ false → c.ended ≡ false → c.closed ≡ false → IsFailed c d
    → Step c (Piece catalog bytes) (Refused NoMemory) d
piece_wants c d catalog bytes e f g x = inr (refl, (e, f, g), x)

pub end_failed : (c : ConnOf) → c.failed ≡ true → Step c End (Refused Failed) c
end_failed c e = inl (rw e refl, rw e refl)

pub end_ended : (c : ConnOf) → c.failed ≡ false → c.ended ≡ true → Step c End (Refused Ended) c
end_ended c e f = inl (rw (e, f) refl, rw (e, f) refl)

pub end_done : (c : ConnOf) → c.failed ≡ false → c.ended ≡ false → Step c End Done (record c { ended = true })
end_done c e f = inl (rw (e, f) refl, rw (e, f) refl)

pub turn_failed : (c : ConnOf) → c.failed ≡ true → Step c Turn (Refused Failed) c
turn_failed c e = inl (rw e refl, rw e refl)

pub turn_went : (c d : ConnOf) (went : Turned) → c.failed ≡ false → IsTurned c d → went ≡ (if works c then Worked else Idle)
    → Step c Turn (Went went) d
turn_went c d went e x is = inl (rw (e, is) refl, MatchBool-from_false _ _ c.failed e x)

pub turn_wants : (c d : ConnOf) → c.failed ≡ false → works c ≡ true → IsFailed c d → Step c Turn (Refused NoMemory) d
turn_wants c d e w x = inr (refl, (e, w), x)

-- ---- of what a connection stands for

-- a step for each exchange that the one in flight may stand for
abbrev pub StepsOn : Connection → Call → Answer → Connection → Type 0
StepsOn old call answer new = (f : Option FlightOf) → IsInFlight old.flight f
    → (g : Option FlightOf) × Step (conn_of old f) call answer (conn_of new g) × IsInFlight new.flight g

pub steps_on : (old new : Connection) (call : Call) (answer : Answer) → StepsOn old call answer new → IsConnStep old call answer new
steps_on old new call answer s c x =
    let next = s x.flight x.stands in
    let P : ConnOf → Type 0 = λ o. Step o call answer (conn_of new next.0) in
    (conn_of new next.0, subst P (sym x.is) next.1, record { flight = next.0; stands = next.2; is = refl })

-- one that changes nothing
pub steps_same : (old : Connection) (call : Call) (answer : Answer) → ((f : Option FlightOf) → Step (conn_of old f) call answer (conn_of old f))
    → IsConnStep old call answer old
steps_same old call answer s = steps_on old old call answer (λ f x. (f, s f, x))

-- none in flight stands for none
pub none_in_flight : (o : Option FlightHeld) → o ≡ None → IsInFlight o None
none_in_flight o e = let P : Option FlightHeld → Type 0 = λ x. IsInFlight x None in subst P (sym e) tt
