-- Calls on places are steps of the hub that these stand for.
use Rattle.std.proofs.Common.{◌≡◌, ◌<◌, ◌≤◌, ◌+◌, ℕ, zero, suc, Bool, true, false, List, [], ◌∷◌, ◌++◌, length, take, drop, get_or, set, replicate, Option, Some, None, Ok, Err, refl, sym, ap, subst, ◌∙◌, arith, append-nil}
use Rattle.std.proofs.lemmas.List.{take_all, drop_all}
use Rattle.std.proofs.lemmas.Iterator.Adapters.{position_from-zero}
use Rattle.std.specs.Prelude.{is_none, is_some, not}
use Rattle.std.specs.List.{AllZip, position, position_from}
use Rattle.table_store.specs.Catalog.{CatalogOf}
use Rattle.http_heads.specs.Hopeless.{TellsHopeless}
use Rattle.odata_hub.specs.declared.answers.HubFault.TheVariants.{Full, NoSuchConnection}
use Rattle.odata_hub.specs.declared.connection.Connection.{Connection}
use Rattle.odata_hub.specs.Connections.{ConnOf, fresh, Call, Answer, Done, Opened, Refused, is_over}
use Rattle.odata_hub.specs.Schedules.{HubOf, Event, Open, On, Drop, conn_at, hub_with, IsCurrent, OpensAt, CallsOn, FreesAt}
use Rattle.odata_hub.specs.Stands.{AreHub, ConnStandsFor, IsConnStep, IsPlacesStep, PlaceStandsFor, TellsHopelessAt, TellsOver}

abbrev AllStand : List (Option Connection) → List (Option ConnOf) → Type 0
AllStand held places = AllZip PlaceStandsFor held places

zip_get : (held : List (Option Connection)) (places : List (Option ConnOf)) (k : ℕ) → AllStand held places
    → PlaceStandsFor (get_or held k None) (get_or places k None)
zip_get [] [] k z = tt
zip_get [] (p ∷ places) k z = absurd z
zip_get (x ∷ held) [] k z = absurd z
zip_get (x ∷ held) (p ∷ places) zero z = z.0
zip_get (x ∷ held) (p ∷ places) (suc k) z = zip_get held places k z.1

pub zip_set : (held : List (Option Connection)) (places : List (Option ConnOf)) (k : ℕ) (x : Option Connection) (p : Option ConnOf)
    → AllStand held places → PlaceStandsFor x p → AllStand (set held k x) (set places k p)
zip_set [] [] k x p z s = tt
zip_set [] (q ∷ places) k x p z s = absurd z
zip_set (y ∷ held) [] k x p z s = absurd z
zip_set (y ∷ held) (q ∷ places) zero x p z s = (s, z.1)
zip_set (y ∷ held) (q ∷ places) (suc k) x p z s = (z.0, zip_set held places k x p z.1 s)

none_same : (x : Option Connection) (p : Option ConnOf) → PlaceStandsFor x p → is_none x ≡ is_none p
none_same None None s = refl
none_same None (Some c) s = absurd s
none_same (Some c) None s = absurd s
none_same (Some c) (Some d) s = refl

zip_position : (i : ℕ) (held : List (Option Connection)) (places : List (Option ConnOf)) → AllStand held places
    → position_from is_none i held ≡ position_from is_none i places
zip_position i [] [] z = refl
zip_position i [] (p ∷ places) z = absurd z
zip_position i (x ∷ held) [] z = absurd z
zip_position i (x ∷ held) (p ∷ places) z = rw (none_same x p z.0, zip_position (i + 1) held places z.1) refl

zip_place : (held : List (Option Connection)) (places : List (Option ConnOf)) → AllStand held places
    → position is_none held ≡ position is_none places
zip_place held places z = position_from-zero is_none held ∙ zip_position 0 held places z ∙ sym (position_from-zero is_none places)

pub zip_free : (n : ℕ) → AllStand (replicate n None) (replicate n None)
zip_free zero = tt
zip_free (suc n) = (tt, zip_free n)

none_there : (o : Option ConnOf) → PlaceStandsFor None o → o ≡ None
none_there None s = refl
none_there (Some c) s = absurd s

some_there : (c : Connection) (o : Option ConnOf) → PlaceStandsFor (Some c) o → (d : ConnOf) × (o ≡ Some d) × ConnStandsFor c d
some_there c None s = absurd s
some_there c (Some d) s = (d, refl, s)

pub free_at : (held : List (Option Connection)) (h : HubOf) (k : ℕ) → AllStand held h.places → get_or held k None ≡ None → conn_at h k ≡ None
free_at held h k z e =
    let P : Option Connection → Type 0 = λ o. PlaceStandsFor o (conn_at h k) in
    none_there (conn_at h k) (subst P e (zip_get held h.places k z))

pub taken_at : (held : List (Option Connection)) (h : HubOf) (k : ℕ) (c : Connection) → AllStand held h.places → get_or held k None ≡ Some c
    → (d : ConnOf) × (conn_at h k ≡ Some d) × ConnStandsFor c d
taken_at held h k c z e =
    let P : Option Connection → Type 0 = λ o. PlaceStandsFor o (conn_at h k) in
    some_there c (conn_at h k) (subst P e (zip_get held h.places k z))

-- a call on a free place
pub nowhere : (catalog : CatalogOf) (held : List (Option Connection)) (k : ℕ) (call : Call) → get_or held k None ≡ None
    → IsPlacesStep catalog held (On k call) (Refused NoSuchConnection) held
nowhere catalog held k call e h a =
    let P : Option ConnOf → Type 0 = λ o. CallsOn h k o call (Refused NoSuchConnection) h in
    (h, subst P (sym (free_at held h k a.places e)) (refl, refl), a)

-- a call on one that is taken
pub called : (catalog : CatalogOf) (held : List (Option Connection)) (k : ℕ) (call : Call) (answer : Answer) (c d : Connection)
    → get_or held k None ≡ Some c → IsConnStep c call answer d → IsCurrent catalog call
    → IsPlacesStep catalog held (On k call) answer (set held k (Some d))
called catalog held k call answer c d e s current h a =
    let there = taken_at held h k c a.places e in
    let next = s there.0 there.2 in
    let n : HubOf = hub_with h k (Some next.0) in
    let P : Option ConnOf → Type 0 = λ o. CallsOn h k o call answer n in
    let C : CatalogOf → Type 0 = λ x. IsCurrent x call in (
      n,
      subst P (sym there.1) (record { next = next.0; step = next.1; current = subst C (sym a.tables) current; new_is = refl }),
      record { tables = a.tables; places = zip_set held h.places k (Some d) (Some next.0) a.places next.2 },
    )

-- a free place is not freed
pub not_freed : (catalog : CatalogOf) (held : List (Option Connection)) (k : ℕ) → get_or held k None ≡ None
    → IsPlacesStep catalog held (Drop k) (Refused NoSuchConnection) held
not_freed catalog held k e h a =
    let P : Option ConnOf → Type 0 = λ o. FreesAt h k o (Refused NoSuchConnection) h in
    (h, subst P (sym (free_at held h k a.places e)) (refl, refl), a)

-- one that is taken is
pub freed : (catalog : CatalogOf) (held : List (Option Connection)) (k : ℕ) (c : Connection) → get_or held k None ≡ Some c
    → IsPlacesStep catalog held (Drop k) Done (set held k None)
freed catalog held k c e h a =
    let there = taken_at held h k c a.places e in
    let n : HubOf = hub_with h k None in
    let P : Option ConnOf → Type 0 = λ o. FreesAt h k o Done n in
    (n, subst P (sym there.1) (refl, refl), record { tables = a.tables; places = zip_set held h.places k None None a.places tt })

-- no place is free
pub full : (catalog : CatalogOf) (held : List (Option Connection)) → position is_none held ≡ None → IsPlacesStep catalog held Open (Refused Full) held
full catalog held e h a =
    let P : Option ℕ → Type 0 = λ o. OpensAt h o (Refused Full) h in
    (h, subst P (sym e ∙ zip_place held h.places a.places) (refl, refl), a)

-- the least free place is taken
pub taken : (catalog : CatalogOf) (held : List (Option Connection)) (k : ℕ) (c : Connection) → position is_none held ≡ Some k → ConnStandsFor c fresh
    → IsPlacesStep catalog held Open (Opened k) (set held k (Some c))
taken catalog held k c e s h a =
    let n : HubOf = hub_with h k (Some fresh) in
    let P : Option ℕ → Type 0 = λ o. OpensAt h o (Opened k) n in (
      n,
      subst P (sym e ∙ zip_place held h.places a.places) (refl, refl),
      record { tables = a.tables; places = zip_set held h.places k (Some c) (Some fresh) a.places s },
    )

pub tells_none : (catalog : CatalogOf) (held : List (Option Connection)) (k : ℕ) (h : HubOf) → AreHub catalog held h → get_or held k None ≡ None
    → TellsOver (conn_at h k) (Err NoSuchConnection)
tells_none catalog held k h a e =
    let P : Option ConnOf → Type 0 = λ o. TellsOver o (Err NoSuchConnection) in subst P (sym (free_at held h k a.places e)) refl

pub tells_over : (catalog : CatalogOf) (held : List (Option Connection)) (k : ℕ) (c : Connection) (over : Bool) (h : HubOf) → AreHub catalog held h
    → get_or held k None ≡ Some c → ((d : ConnOf) → ConnStandsFor c d → over ≡ is_over d) → TellsOver (conn_at h k) (Ok over)
tells_over catalog held k c over h a e same =
    let there = taken_at held h k c a.places e in
    let P : Option ConnOf → Type 0 = λ o. TellsOver o (Ok over) in subst P (sym there.1) (ap Ok (same there.0 there.2))

pub tells_no_rest : (catalog : CatalogOf) (held : List (Option Connection)) (k : ℕ) (h : HubOf) → AreHub catalog held h → get_or held k None ≡ None
    → TellsHopelessAt (conn_at h k) (Err NoSuchConnection)
tells_no_rest catalog held k h a e =
    let P : Option ConnOf → Type 0 = λ o. TellsHopelessAt o (Err NoSuchConnection) in subst P (sym (free_at held h k a.places e)) refl

pub tells_hopeless : (catalog : CatalogOf) (held : List (Option Connection)) (k : ℕ) (c : Connection) (told : Bool) (h : HubOf) → AreHub catalog held h
    → get_or held k None ≡ Some c → ((d : ConnOf) → ConnStandsFor c d → TellsHopeless d.rest told) → TellsHopelessAt (conn_at h k) (Ok told)
tells_hopeless catalog held k c told h a e of_rest =
    let there = taken_at held h k c a.places e in
    let P : Option ConnOf → Type 0 = λ o. TellsHopelessAt o (Ok told) in subst P (sym there.1) (told, refl, of_rest there.0 there.2)

-- ---- from what a slice gives

default_other : (held : List (Option Connection)) (k : ℕ) (d e : Option Connection) → k < length held → get_or held k d ≡ get_or held k e
default_other [] k d e lt = absurd (omega (arith, lt))
default_other (x ∷ held) zero d e lt = refl
default_other (x ∷ held) (suc k) d e lt = default_other held k d e (omega (arith, lt))

pub beyond : (held : List (Option Connection)) (k : ℕ) → length held ≤ k → get_or held k None ≡ None
beyond [] k le = refl
beyond (x ∷ held) zero le = absurd (omega (arith, le))
beyond (x ∷ held) (suc k) le = beyond held k (omega (arith, le))

-- what stands at a place
pub stands_at : (held : List (Option Connection)) (k : ℕ) (r o : Option Connection) → k < length held → get_or held k r ≡ o
    → get_or held k None ≡ o
stands_at held k r o lt is = default_other held k None r lt ∙ is

set_same : (held : List (Option Connection)) (k : ℕ) (d : Option Connection) → set held k (get_or held k d) ≡ held
set_same [] k d = refl
set_same (x ∷ held) zero d = refl
set_same (x ∷ held) (suc k) d = ap (λ (t : List (Option Connection)). x ∷ t) (set_same held k d)

-- a free place is written again
pub set_free : (held : List (Option Connection)) (k : ℕ) (o : Option Connection) → get_or held k None ≡ None → o ≡ None → set held k o ≡ held
set_free held k o free none = ap (set held k) (none ∙ sym free) ∙ set_same held k None

taken_whole : {T : Type 0} (n : ℕ) (new items : List T) → length new ≡ n → length items ≡ n → take n (new ++ drop (length new) items) ≡ new
taken_whole n new items a b =
    let none : drop (length new) items ≡ [] = drop_all (length new) items (omega (arith, a, b)) in
    ap (λ t. take n (new ++ t)) none ∙ ap (take n) (append-nil new) ∙ take_all n new (omega (arith, a))

-- what is made of the places is written back
pub written : (S : List (Option Connection) → List (Option Connection) → Type 0) (n : ℕ) (items now new : List (Option Connection)) → now ≡ items
    → length now ≡ n → length new ≡ length now → S now new → S items (take n (new ++ drop (length new) items))
written S n items now new same len kept s =
    let size : length items ≡ n = ap length (sym same) ∙ len in
    let P : List (Option Connection) → Type 0 = λ x. S x new in
    let Q : List (Option Connection) → Type 0 = λ x. S items x in
    subst Q (sym (taken_whole n new items (kept ∙ len) size)) (subst P same s)

-- and by a call
pub written_back : (catalog : CatalogOf) (n : ℕ) (items now new : List (Option Connection)) (event : Event) (answer : Answer) → now ≡ items
    → length now ≡ n → length new ≡ length now → IsPlacesStep catalog now event answer new
    → IsPlacesStep catalog items event answer (take n (new ++ drop (length new) items))
written_back catalog n items now new event answer same len kept s =
    written (λ old next. IsPlacesStep catalog old event answer next) n items now new same len kept s

-- a free place is as it was
pub nowhere_again : (catalog : CatalogOf) (held : List (Option Connection)) (k : ℕ) (call : Call) (o : Option Connection) → get_or held k None ≡ None
    → o ≡ None → IsPlacesStep catalog held (On k call) (Refused NoSuchConnection) (set held k o)
nowhere_again catalog held k call o free none =
    let P : List (Option Connection) → Type 0 = λ x. IsPlacesStep catalog held (On k call) (Refused NoSuchConnection) x in
    subst P (sym (set_free held k o free none)) (nowhere catalog held k call free)

none_is : (o : Option Connection) → is_some o ≡ false → o ≡ None
none_is None e = refl
none_is (Some c) e = absurd (cc e)

some_is : (o : Option Connection) → is_some o ≡ true → (c : Connection) × (o ≡ Some c)
some_is None e = absurd (cc e)
some_is (Some c) e = (c, refl)

-- a place that is reported as free, or not, by what is there
pub not_freed_by : (catalog : CatalogOf) (held : List (Option Connection)) (k : ℕ) (r : Option Connection) (free : Bool) → k < length held
    → is_some (get_or held k r) ≡ not free → free ≡ true → IsPlacesStep catalog held (Drop k) (Refused NoSuchConnection) held
not_freed_by catalog held k r free lt is e =
    not_freed catalog held k (stands_at held k r None lt (none_is (get_or held k r) (is ∙ ap not e)))

pub freed_by : (catalog : CatalogOf) (held : List (Option Connection)) (k : ℕ) (r : Option Connection) (free : Bool) → k < length held
    → is_some (get_or held k r) ≡ not free → free ≡ false → IsPlacesStep catalog held (Drop k) Done (set held k None)
freed_by catalog held k r free lt is e =
    let there = some_is (get_or held k r) (is ∙ ap not e) in freed catalog held k there.0 (stands_at held k r (Some there.0) lt there.1)
