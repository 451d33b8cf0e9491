-- Output that is lent, and then taken.
use Rattle.std.proofs.Common.{◌≡◌, ℕ, List, drop, get_or, set, Option, Some, None, Ok, Err, refl, sym, ap, subst, inl}
use Rattle.std.specs.Borrow.{Bor}
use Rattle.table_store.specs.Catalog.{CatalogOf}
use Rattle.odata_http.specs.Waiting.{IsFront}
use Rattle.odata_hub.specs.declared.answers.HubFault.TheVariants.{NoSuchConnection}
use Rattle.odata_hub.specs.declared.connection.Connection.{Connection}
use Rattle.odata_hub.specs.Connections.{ConnOf, Step, Take, answer_to}
use Rattle.odata_hub.specs.Schedules.{CallsOn, HubOf, conn_at, hub_with}
use Rattle.odata_hub.specs.Stands.{AreHub, ArePlacesTook, ConnStandsFor, IsConnTook, LendsAt, TellsTook, conn_of, took_answer}
use Rattle.odata_hub.proofs.PlaceLemmas.{free_at, set_free, taken_at, zip_set}

-- the output alone has changed, by some bytes
pub took_by : (old new : Connection) (count : ℕ) → new ≡ record old { output = drop count old.output } → IsConnTook old count new
took_by old new count e c s =
    let next : ConnOf = record (conn_of old s.flight) { output = drop count old.output } in
    let P : ConnOf → Type 0 = λ o. Step o (Take count) (answer_to o (Take count)) next in
    let Q : Connection → Type 0 = λ o. ConnStandsFor o next in (
      next,
      subst P (sym s.is) (inl (refl, refl)),
      subst Q (sym e) (record { flight = s.flight; stands = s.stands; is = refl }),
    )

-- a connection stands at the place
pub took_there : (catalog : CatalogOf) (held : List (Option Connection)) (k count : ℕ) (c d : Connection) → get_or held k None ≡ Some c
    → IsConnTook c count d → ArePlacesTook catalog held k count (set held k (Some d))
took_there catalog held k count c d e s h a =
    let there = taken_at held h k c a.places e in
    let next = s there.0 there.2 in
    let n : HubOf = hub_with h k (Some next.0) in
    let P : Option ConnOf → Type 0 = λ o. CallsOn h k o (Take count) (took_answer o count) n in (
      n,
      subst P (sym there.1) (record { next = next.0; step = next.1; current = tt; new_is = refl }),
      record { tables = a.tables; places = zip_set held h.places k (Some d) (Some next.0) a.places next.2 },
    )

-- the place is free, or there is none
pub took_nowhere : (catalog : CatalogOf) (held : List (Option Connection)) (k count : ℕ) → get_or held k None ≡ None
    → ArePlacesTook catalog held k count held
took_nowhere catalog held k count e h a =
    let P : Option ConnOf → Type 0 = λ o. CallsOn h k o (Take count) (took_answer o count) h in
    (h, subst P (sym (free_at held h k a.places e)) (refl, refl), a)

pub took_nowhere_again : (catalog : CatalogOf) (held : List (Option Connection)) (k count : ℕ) (o : Option Connection) → get_or held k None ≡ None
    → o ≡ None → ArePlacesTook catalog held k count (set held k o)
took_nowhere_again catalog held k count o free none =
    let P : List (Option Connection) → Type 0 = λ x. ArePlacesTook catalog held k count x in
    subst P (sym (set_free held k o free none)) (took_nowhere catalog held k count free)

pub tells_took : (catalog : CatalogOf) (held : List (Option Connection)) (k : ℕ) (c : Connection) (h : HubOf) → AreHub catalog held h
    → get_or held k None ≡ Some c → TellsTook (conn_at h k) (Ok tt)
tells_took catalog held k c h a e =
    let P : Option ConnOf → Type 0 = λ o. TellsTook o (Ok tt) in subst P (sym (taken_at held h k c a.places e).1) refl

pub tells_nowhere : (catalog : CatalogOf) (held : List (Option Connection)) (k : ℕ) (h : HubOf) → AreHub catalog held h → get_or held k None ≡ None
    → TellsTook (conn_at h k) (Err NoSuchConnection)
tells_nowhere catalog held k h a e =
    let P : Option ConnOf → Type 0 = λ o. TellsTook o (Err NoSuchConnection) in subst P (sym (free_at held h k a.places e)) refl

pub lends_there : (catalog : CatalogOf) (held : List (Option Connection)) (k : ℕ) (c : Connection) (bytes : Bor (List ℕ)) (h : HubOf)
    → AreHub catalog held h → get_or held k None ≡ Some c → IsFront bytes.now c.output → LendsAt (conn_at h k) (Ok bytes)
lends_there catalog held k c bytes h a e front =
    let there = taken_at held h k c a.places e in
    let P : Option ConnOf → Type 0 = λ o. LendsAt o (Ok bytes) in
    let Q : List ℕ → Type 0 = λ output. IsFront bytes.now output in
    subst P (sym there.1) (bytes, refl, subst Q (sym (ap (λ (x : ConnOf). x.output) there.2.is)) front)

pub lends_nowhere : (catalog : CatalogOf) (held : List (Option Connection)) (k : ℕ) (h : HubOf) → AreHub catalog held h → get_or held k None ≡ None
    → LendsAt (conn_at h k) (Err NoSuchConnection)
lends_nowhere catalog held k h a e =
    let P : Option ConnOf → Type 0 = λ o. LendsAt o (Err NoSuchConnection) in subst P (sym (free_at held h k a.places e)) refl
