-- The heads that are cut off wait one after another, and a piece is a step.
use Rattle.std.proofs.Common.{◌≡◌, ◌≤◌, ℕ, false, List, [], ◌∷◌, ◌++◌, length, Option, refl, arith, sym, ap, subst, ◌∙◌, append_assoc, append-nil}
use Rattle.table_store.specs.Catalog.{CatalogOf}
use Rattle.http_heads.specs.Head.{HeadOf}
use Rattle.odata_http.specs.Answer.{AreSmall}
use Rattle.odata_hub.specs.declared.connection.Connection.{Connection}
use Rattle.odata_hub.specs.Streams.{Asked, asked}
use Rattle.odata_hub.specs.Connections.{ConnOf, Done, FlightOf, IsFed, Piece}
use Rattle.odata_hub.specs.Held.{FlightHeld, IsInFlight}
use Rattle.odata_hub.specs.Pieces.{IsCutInto}
use Rattle.odata_hub.specs.Stands.{IsConnStep, conn_of}
use Rattle.odata_hub.proofs.StepLemmas.{piece_fed, steps_on}

-- the next of small heads is small, and so are the others
pub next_small : (heads rest : List HeadOf) (head : HeadOf) → heads ≡ head ∷ rest → AreSmall heads → (length head.target ≤ 8_192) × AreSmall rest
next_small heads rest head e small = subst AreSmall e small

-- it waits after the others
pub waits_next : (catalog : CatalogOf) (heads rest : List HeadOf) (head : HeadOf) (waiting more all : List Asked) → heads ≡ head ∷ rest
    → waiting ++ asked catalog heads ≡ all → more ≡ waiting ++ record { catalog = catalog; head = head } ∷ []
    → more ++ asked catalog rest ≡ all
waits_next catalog heads rest head waiting more all e so_far is =
    let a : Asked = record { catalog = catalog; head = head } in
    ap (λ (w : List Asked). w ++ asked catalog rest) is ∙ append_assoc waiting (a ∷ []) (asked catalog rest)
    ∙ ap (λ (hs : List HeadOf). waiting ++ asked catalog hs) (sym e) ∙ so_far

nothing_left : (heads : List HeadOf) → length heads ≡ 0 → heads ≡ []
nothing_left [] e = refl
nothing_left (h ∷ heads) e = absurd (omega (arith, e))

-- all of them wait
pub waits_all : (catalog : CatalogOf) (heads : List HeadOf) (waiting all : List Asked) → length heads ≡ 0
    → waiting ++ asked catalog heads ≡ all → waiting ≡ all
waits_all catalog heads waiting all e so_far =
    sym (append-nil waiting) ∙ ap (λ (hs : List HeadOf). waiting ++ asked catalog hs) (sym (nothing_left heads e)) ∙ so_far

-- what a piece makes of a connection
fed_into : (old new : Connection) (f : Option FlightOf) (catalog : CatalogOf) (piece : List ℕ)
    → IsCutInto catalog (old.splitter ++ piece) old.waiting.items new.waiting.items new.splitter new.closed
    → conn_of new f ≡ record (conn_of old f) { rest = new.splitter; waiting = new.waiting.items; closed = new.closed }
    → IsFed (conn_of old f) catalog piece (conn_of new f)
fed_into old new f catalog piece cut same =
    let fed : List Asked → ConnOf = λ w. record (conn_of old f) { rest = new.splitter; waiting = w; closed = new.closed } in
    record { heads = cut.heads; rest = new.splitter; closed = new.closed; cut = cut.cut; new_is = same ∙ ap fed cut.waits }

-- a piece that was taken in is one step
pub piece_in : (old new : Connection) (catalog : CatalogOf) (piece : List ℕ) → old.failed ≡ false → old.ended ≡ false → old.closed ≡ false
    → IsCutInto catalog (old.splitter ++ piece) old.waiting.items new.waiting.items new.splitter new.closed → new.flight ≡ old.flight
    → ((f : Option FlightOf) → conn_of new f ≡ record (conn_of old f) { rest = new.splitter; waiting = new.waiting.items; closed = new.closed })
    → IsConnStep old (Piece catalog piece) Done new
piece_in old new catalog piece e f g cut kept same = steps_on old new (Piece catalog piece) Done (λ flight x.
    let P : Option FlightHeld → Type 0 = λ o. IsInFlight o flight in (
      flight,
      piece_fed (conn_of old flight) (conn_of new flight) catalog piece e f g (fed_into old new flight catalog piece cut (same flight)),
      subst P (sym kept) x,
    ))
