-- What the calls of an exchange make of what is in flight.
use Rattle.std.proofs.Common.{◌≡◌, ◌-◌, ℕ, List, Result, Ok, sym, subst}
use Rattle.std.specs.Prelude.{IsErr}
use Rattle.std.specs.declared.alloc.AllocError.{AllocError}
use Rattle.table_store.specs.Catalog.{CatalogOf}
use Rattle.http_heads.specs.Head.{HeadOf}
use Rattle.odata_http.specs.declared.lazy.LazyExchange.{LazyExchange}
use Rattle.odata_http.specs.Lazy.{AnswersLazily, BeginsLazily, GivesLazily, GoesOnLazily, HasLazilyFailed, IsLazilyDone, MayGoOnLazily, answers, done, failed}
use Rattle.odata_http.specs.Reply.{IsReply}
use Rattle.query_exec.specs.declared.run.Step.{Step}
use Rattle.query_exec.specs.declared.run.Step.TheVariants.{Done, More}
use Rattle.odata_hub.specs.declared.flight.Gone.TheVariants.{On, Replied}
use Rattle.odata_hub.specs.Connections.{FlightOf}
use Rattle.odata_hub.specs.Held.{FlightHeld, IsFlight}
use Rattle.odata_hub.specs.Work.{GoesOnTo}

abbrev ok_step : Step → Result Step AllocError
ok_step step = Ok step

-- one that begins
pub begins : (catalog : CatalogOf) (head : HeadOf) (exchange : LazyExchange) → BeginsLazily catalog head exchange → MayGoOnLazily catalog exchange
begins catalog head exchange b = answers head b.calls b.answers

abbrev Advances : CatalogOf → LazyExchange → LazyExchange → Result Step AllocError → Type 0
Advances catalog old new result = (head : HeadOf) (left : ℕ) → AnswersLazily catalog head left old → GoesOnLazily catalog head left new result

abbrev StaysDone : LazyExchange → LazyExchange → Result Step AllocError → Type 0
StaysDone old new result = (reply : List ℕ) → GivesLazily old reply → (result ≡ Ok Done) × GivesLazily new reply

on : (catalog : CatalogOf) (old new : LazyExchange) → MayGoOnLazily catalog old → Advances catalog old new (Ok More) → StaysDone old new (Ok More)
    → (HasLazilyFailed old → IsErr (ok_step More)) → MayGoOnLazily catalog new
on catalog old new (done d) goes stays fails = absurd (cc ((stays d.0 d.1).0))
on catalog old new (failed f) goes stays fails = absurd (cc (fails f))
on catalog old new (answers head left a) goes stays fails = answers head (left - 1) (goes head left a).1

over : (catalog : CatalogOf) (old new : LazyExchange) → MayGoOnLazily catalog old → Advances catalog old new (Ok Done) → StaysDone old new (Ok Done)
    → (HasLazilyFailed old → IsErr (ok_step Done)) → IsLazilyDone new
over catalog old new (done d) goes stays fails = (d.0, (stays d.0 d.1).1)
over catalog old new (failed f) goes stays fails = absurd (cc (fails f))
over catalog old new (answers head left a) goes stays fails = let g = goes head left a in (g.1, g.3)

-- after a call with others left
pub may_go_on : (catalog seen : CatalogOf) (old new : LazyExchange) (step : Step) → seen ≡ catalog → MayGoOnLazily catalog old
    → Advances seen old new (Ok step) → StaysDone old new (Ok step) → (HasLazilyFailed old → IsErr (ok_step step)) → step ≡ More → MayGoOnLazily catalog new
may_go_on catalog seen old new step same may goes stays fails e =
    let P : Step → Type 0 = λ s. Advances catalog old new (Ok s) in
    let A : CatalogOf → Type 0 = λ k. Advances k old new (Ok step) in
    let Q : Step → Type 0 = λ s. StaysDone old new (Ok s) in
    let R : Step → Type 0 = λ s. HasLazilyFailed old → IsErr (ok_step s) in
    on catalog old new may (subst P e (subst A same goes)) (subst Q e stays) (subst R e fails)

-- after the last
pub done_now : (catalog seen : CatalogOf) (old new : LazyExchange) (step : Step) → seen ≡ catalog → MayGoOnLazily catalog old
    → Advances seen old new (Ok step) → StaysDone old new (Ok step) → (HasLazilyFailed old → IsErr (ok_step step)) → step ≡ Done → IsLazilyDone new
done_now catalog seen old new step same may goes stays fails e =
    let P : Step → Type 0 = λ s. Advances catalog old new (Ok s) in
    let A : CatalogOf → Type 0 = λ k. Advances k old new (Ok step) in
    let Q : Step → Type 0 = λ s. StaysDone old new (Ok s) in
    let R : Step → Type 0 = λ s. HasLazilyFailed old → IsErr (ok_step s) in
    over catalog old new may (subst P e (subst A same goes)) (subst Q e stays) (subst R e fails)

abbrev pub held_of : CatalogOf → LazyExchange → FlightHeld
held_of catalog exchange = record { catalog = catalog; exchange = exchange }

pub on_more : (held : FlightHeld) (catalog seen : CatalogOf) (old new : LazyExchange) (step : Step) → seen ≡ catalog → held_of catalog old ≡ held
    → Advances seen old new (Ok step) → step ≡ More → (f : FlightOf) → IsFlight held f → GoesOnTo f (On (held_of catalog new))
on_more held catalog seen old new step same view goes e f x =
    let P : Step → Type 0 = λ s. Advances catalog old new (Ok s) in
    let A : CatalogOf → Type 0 = λ k. Advances k old new (Ok step) in
    let H : FlightHeld → Type 0 = λ h. IsFlight h f in
    let y : IsFlight (held_of catalog old) f = subst H (sym view) x in
    let g = subst P e (subst A same goes) f.asked.head f.left y.answers in
    (g.0, record { tables = y.tables; answers = g.1 })

pub replies_now : (held : FlightHeld) (catalog seen : CatalogOf) (old new : LazyExchange) (step : Step) (reply : List ℕ) → seen ≡ catalog
    → held_of catalog old ≡ held → Advances seen old new (Ok step) → step ≡ Done → ((bytes : List ℕ) → GivesLazily new bytes → reply ≡ bytes)
    → (f : FlightOf) → IsFlight held f → GoesOnTo f (Replied reply)
replies_now held catalog seen old new step reply same view goes e gives f x =
    let P : Step → Type 0 = λ s. Advances catalog old new (Ok s) in
    let A : CatalogOf → Type 0 = λ k. Advances k old new (Ok step) in
    let H : FlightHeld → Type 0 = λ h. IsFlight h f in
    let y : IsFlight (held_of catalog old) f = subst H (sym view) x in
    let g = subst P e (subst A same goes) f.asked.head f.left y.answers in
    let B : List ℕ → Type 0 = λ b. IsReply f.asked.catalog f.asked.head b in
    let C : CatalogOf → Type 0 = λ k. IsReply k f.asked.head g.1 in
    (g.0, subst B (sym (gives g.1 g.3)) (subst C y.tables g.2))
