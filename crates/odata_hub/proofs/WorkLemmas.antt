-- What a turn makes of a connection.
use Rattle.std.proofs.Common.{◌≡◌, ◌<◌, ◌-◌, ℕ, Bool, true, false, List, [], ◌∷◌, ◌++◌, length, Option, Some, None, Result, Ok, Err, refl, sym, ap, subst, ◌∙◌, arith}
use Rattle.std.specs.Prelude.{IfOk, MatchBool, OnErr, nat_le, if◌then◌else◌}
use Rattle.std.specs.declared.alloc.AllocError.{AllocError}
use Rattle.std.proofs.lemmas.Bool.Decides.{nat_tests}
use Rattle.odata_hub.specs.declared.answers.Turned.{Turned}
use Rattle.odata_hub.specs.declared.answers.Turned.TheVariants.{Idle, Worked}
use Rattle.odata_hub.specs.declared.connection.Connection.{Connection}
use Rattle.odata_hub.specs.declared.flight.Gone.{Gone}
use Rattle.odata_hub.specs.declared.flight.Gone.TheVariants.{On, Replied}
use Rattle.odata_hub.specs.Streams.{Asked}
use Rattle.odata_hub.specs.Connections.{AddsReply, ConnOf, FlightOf, IsTurnedBy, works_by}
use Rattle.odata_hub.specs.Held.{FlightHeld, IsFlight, IsInFlight}
use Rattle.odata_hub.specs.Stands.{conn_of}
use Rattle.odata_hub.specs.Work.{BeginsFlight, FoundWork, GoesOnTo, IsWorked}

-- one call of the exchange, with others left
pub worked_on : (old : Connection) (held : FlightHeld) (gone : Gone) (f : FlightOf) → GoesOnTo f gone → gone ≡ On held
    → IsWorked old (Some f) Worked (record old { flight = Some held })
worked_on old held gone f goes e =
    let P : Gone → Type 0 = λ g. GoesOnTo f g in
    let on : GoesOnTo f (On held) = subst P e goes in
    let next : FlightOf = record { asked = f.asked; left = f.left - 1 } in
    let more : nat_le f.left 1 ≡ false = grind (arith, nat_tests, on.0) in
    let M : Bool → Type 0 = λ b. MatchBool b (AddsReply (conn_of old (Some f)) f.asked (conn_of old (Some next))) (conn_of old (Some next) ≡ conn_of old (Some next)) in
    record { next = Some next; stands = on.1; turned = subst M (sym more) refl; went_is = refl }

-- its last call: the reply is added to the output
pub worked_over : (old : Connection) (gone : Gone) (reply : List ℕ) (output : List ℕ) (f : FlightOf) → GoesOnTo f gone
    → gone ≡ Replied reply → output ≡ old.output ++ reply
    → IsWorked old (Some f) Worked (record old { flight = None; output = output })
worked_over old gone reply output f goes e added =
    let P : Gone → Type 0 = λ g. GoesOnTo f g in
    let over : GoesOnTo f (Replied reply) = subst P e goes in
    let last : nat_le f.left 1 ≡ true = ap (λ (n : ℕ). nat_le n 1) over.0 in
    let was : ConnOf = conn_of old (Some f) in
    let now : ConnOf = record was { flight = None; output = output } in
    let adds : AddsReply was f.asked now = record {
      reply = reply;
      is = over.1;
      new_is = ap (λ (o : List ℕ). record was { flight = None; output = o }) added;
    } in
    let M : Bool → Type 0 = λ b. MatchBool b (AddsReply was f.asked now) (now ≡ record was { flight = Some (record { asked = f.asked; left = f.left - 1 }) }) in
    record { next = None; stands = tt; turned = subst M (sym last) adds; went_is = refl }

-- of the one that was in flight
pub worked_taken : (old new : Connection) (held : FlightHeld) (was empty : Option FlightHeld) (result : Result Turned AllocError) → was ≡ old.flight
    → was ≡ Some held → IfOk result (λ went. (f : FlightOf) → IsFlight held f → IsWorked (record old { flight = empty }) (Some f) went new)
    → IfOk result (λ went. (f : Option FlightOf) → IsInFlight old.flight f → IsWorked old f went new)
worked_taken old new held was empty (Ok went) same is s = λ f x.
    let P : Option FlightHeld → Type 0 = λ o. IsInFlight o f in go f (subst P (sym same ∙ is) x)
  where
    go : (f : Option FlightOf) → IsInFlight (Some held) f → IsWorked old f went new
    go None y = absurd y
    go (Some f) y = let w = s f y in record { next = w.next; stands = w.stands; turned = w.turned; went_is = w.went_is }
worked_taken old new held was empty (Err e) same is s = s

-- none was in flight
pub worked_none : (old new : Connection) (was empty : Option FlightHeld) (result : Result Turned AllocError) → was ≡ old.flight → was ≡ None
    → IfOk result (λ went. IsWorked (record old { flight = empty }) None went new)
    → IfOk result (λ went. (f : Option FlightOf) → IsInFlight old.flight f → IsWorked old f went new)
worked_none old new was empty (Ok went) same is w = λ f x.
    let P : Option FlightHeld → Type 0 = λ o. IsInFlight o f in go f (subst P (sym same ∙ is) x)
  where
    go : (f : Option FlightOf) → IsInFlight None f → IsWorked old f went new
    go None y = record { next = w.next; stands = w.stands; turned = w.turned; went_is = w.went_is }
    go (Some f) y = absurd y
worked_none old new was empty (Err e) same is s = s

-- the exchange of a waiting head begins
pub worked_begun : (old new : Connection) (a : Asked) (held : FlightHeld) → old.waiting.items ≡ a ∷ new.waiting.items → new.flight ≡ Some held
    → ((g : Option FlightOf) → conn_of new g ≡ record (conn_of old None) { waiting = new.waiting.items; flight = g }) → BeginsFlight a held
    → IsWorked old None Worked new
worked_begun old new a held first flight same b =
    let next : Option FlightOf = Some (record { asked = a; left = b.calls }) in
    let P : Option FlightHeld → Type 0 = λ o. IsInFlight o next in
    let W : List Asked → Type 0 = λ ws. IsTurnedBy (conn_of old None) None ws old.ended old.splitter (conn_of new next) in
    let V : List Asked → Type 0 = λ ws. Worked ≡ (if works_by None ws old.ended old.splitter then Worked else Idle) in
    record {
      next = next;
      stands = subst P (sym flight) b.is;
      turned = subst W (sym first) (record { calls = b.calls; takes = b.takes; new_is = same next });
      went_is = subst V (sym first) refl;
    }

-- ---- where memory is wanting there was something to do

-- a rest was left once the stream ended
pub rest_found : (old : Connection) → old.ended ≡ true → 0 < length old.splitter → old.waiting.items ≡ [] → FoundWork old None
rest_found old e some none = go old.waiting.items old.ended old.splitter none e some where
  go : (ws : List Asked) (ended : Bool) (rest : List ℕ) → ws ≡ [] → ended ≡ true → 0 < length rest → works_by None ws ended rest ≡ true
  go (a ∷ ws) ended rest n e s = refl
  go [] false rest n e s = absurd (cc e)
  go [] true [] n e s = absurd (omega (arith, s))
  go [] true (b ∷ rest) n e s = refl

-- a head waited
pub head_found : (old : Connection) (a : Asked) (more : List Asked) → old.waiting.items ≡ a ∷ more → FoundWork old None
head_found old a more first =
    let W : List Asked → Type 0 = λ ws. works_by None ws old.ended old.splitter ≡ true in subst W (sym first) refl

-- an exchange was in flight
pub flight_found : (old : Connection) (held : FlightHeld) (was : Option FlightHeld) (result : Result Turned AllocError) → was ≡ old.flight
    → was ≡ Some held → OnErr result ((f : Option FlightOf) → IsInFlight old.flight f → FoundWork old f)
flight_found old held was (Ok went) same is = tt
flight_found old held was (Err e) same is = λ f x.
    let P : Option FlightHeld → Type 0 = λ o. IsInFlight o f in go f (subst P (sym same ∙ is) x)
  where
    go : (f : Option FlightOf) → IsInFlight (Some held) f → FoundWork old f
    go None y = absurd y
    go (Some f) y = refl

-- none was
pub none_found : (old : Connection) (was : Option FlightHeld) (result : Result Turned AllocError) → was ≡ old.flight → was ≡ None
    → OnErr result (FoundWork old None) → OnErr result ((f : Option FlightOf) → IsInFlight old.flight f → FoundWork old f)
none_found old was (Ok went) same is w = tt
none_found old was (Err e) same is w = λ f x.
    let P : Option FlightHeld → Type 0 = λ o. IsInFlight o f in go f (subst P (sym same ∙ is) x)
  where
    go : (f : Option FlightOf) → IsInFlight None f → FoundWork old f
    go None y = w
    go (Some f) y = absurd y
