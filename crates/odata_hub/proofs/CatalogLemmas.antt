-- Under which tables the heads of a connection came.
use Rattle.std.proofs.Common.{◌≡◌, ℕ, Bool, true, false, eqb, List, [], ◌∷◌, ◌++◌, Option, Some, None, refl, sym, ap, subst, ◌∙◌, arith, append_assoc}
use Rattle.std.specs.Prelude.{if◌then◌else◌, is_none}
use Rattle.std.specs.List.{position}
use Rattle.std.proofs.lemmas.Bool.Decides.{nat_tests}
use Rattle.table_store.specs.Catalog.{CatalogOf}
use Rattle.http_heads.specs.Laws.{OneCut, CutsJoin}
use Rattle.odata_hub.specs.Streams.{Came, Asked, AreAskedBehind, IsCutUnder, bytes_of, heads_of}
use Rattle.odata_hub.specs.Connections.{Call, Piece, End, Turn, Take, Answer, Opened, Own, came_with, is_done, stream_of}
use Rattle.odata_hub.specs.Schedules.{HubOf, Event, Open, On, Drop, Reload, Happening, conn_at, IsCurrent, OpensAt, CallsOn, FreesAt, HubStep, HubRun, own_before, own_of, stays_by, stays, opened, reload, reloads_by, has_reload}
use Rattle.odata_hub.specs.Laws.{CameUnder, Parts}
use Rattle.odata_hub.proofs.StreamLemmas.{have_behind, behind_halves, behind_one}
use Rattle.odata_hub.proofs.RunLemmas.{Keeps-own}
use Rattle.odata_hub.proofs.HubLemmas.{from_open}

CameUnder-append : (n : CatalogOf) (s t : List Came) → CameUnder n s → CameUnder n t → CameUnder n (s ++ t)
CameUnder-append n [] t h g = g
CameUnder-append n (b ∷ s) t h g = (h.0, CameUnder-append n s t h.1 g)

came_current : (n : CatalogOf) (call : Call) (answer : Answer) → IsCurrent n call → CameUnder n (came_with call answer)
came_current n (Piece catalog bytes) answer e =
    elim (is_done answer) as (λ done. CameUnder n (if done then record { catalog = catalog; bytes = bytes } ∷ [] else [])) [
      | true ↦ (e, tt)
      | false ↦ tt
    ]
came_current n End answer e = tt
came_current n Turn answer e = tt
came_current n (Take room) answer e = tt

-- only a reload changes the tables
open_catalog : (h m : HubOf) (answer : Answer) → HubStep h Open answer m → m.catalog ≡ h.catalog
open_catalog h m answer s = go (position is_none h.places) s where
  go : (o : Option ℕ) → OpensAt h o answer m → m.catalog ≡ h.catalog
  go None s = ap (λ g. g.catalog) s.1
  go (Some p) s = ap (λ g. g.catalog) s.1

on_catalog : (h m : HubOf) (k : ℕ) (call : Call) (answer : Answer) → HubStep h (On k call) answer m → m.catalog ≡ h.catalog
on_catalog h m k call answer s = go (conn_at h k) s where
  go : (o : Option _) → CallsOn h k o call answer m → m.catalog ≡ h.catalog
  go None s = ap (λ g. g.catalog) s.1
  go (Some c) s = ap (λ g. g.catalog) s.new_is

drop_catalog : (h m : HubOf) (k : ℕ) (answer : Answer) → HubStep h (Drop k) answer m → m.catalog ≡ h.catalog
drop_catalog h m k answer s = go (conn_at h k) s where
  go : (o : Option _) → FreesAt h k o answer m → m.catalog ≡ h.catalog
  go None s = ap (λ g. g.catalog) s.1
  go (Some c) s = ap (λ g. g.catalog) s.1

step_catalog : (h m : HubOf) (event : Event) (answer : Answer) → reloads_by event false ≡ false → HubStep h event answer m → m.catalog ≡ h.catalog
step_catalog h m Open answer early s = open_catalog h m answer s
step_catalog h m (On p call) answer early s = on_catalog h m p call answer s
step_catalog h m (Drop p) answer early s = drop_catalog h m p answer s
step_catalog h m (Reload catalog) answer early s = absurd (cc early)

no_reload_first : (event : Event) (rest : Bool) → reloads_by event rest ≡ false → (reloads_by event false ≡ false) × (rest ≡ false)
no_reload_first Open rest e = (refl, e)
no_reload_first (On p call) rest e = (refl, e)
no_reload_first (Drop p) rest e = (refl, e)
no_reload_first (Reload catalog) rest e = absurd (cc e)

-- an own piece came under the current tables
on_current : (h m : HubOf) (k : ℕ) (call : Call) (answer : Answer) → HubStep h (On k call) answer m → CameUnder h.catalog (came_with call answer)
on_current h m k call answer s = go (conn_at h k) s where
  nowhere : (call : Call) (answer : Answer) → is_done answer ≡ false → CameUnder h.catalog (came_with call answer)
  nowhere (Piece catalog bytes) answer e = rw e tt
  nowhere End answer e = tt
  nowhere Turn answer e = tt
  nowhere (Take room) answer e = tt

  go : (o : Option _) → CallsOn h k o call answer m → CameUnder h.catalog (came_with call answer)
  go None s = nowhere call answer (ap is_done s.0)
  go (Some c) s = came_current h.catalog call answer s.current

-- with no reload each piece comes under the same tables
one_catalog : (h e : HubOf) (k : ℕ) (hs : List Happening) → HubRun h hs e → has_reload hs ≡ false → CameUnder h.catalog (stream_of (own_of k hs))
one_catalog h e k [] r early = tt
one_catalog h e k (x ∷ hs) r early =
    let first : (reloads_by x.event false ≡ false) × (has_reload hs ≡ false) = no_reload_first x.event (has_reload hs) early in
    let same : r.0.catalog ≡ h.catalog = step_catalog h r.0 x.event x.answer first.0 r.1 in
    let P : CatalogOf → Type 0 = λ n. CameUnder n (stream_of (own_of k hs)) in
    go (subst P same (one_catalog r.0 e k hs r.2 first.1)) x.event r.1
  where
    go : CameUnder h.catalog (stream_of (own_of k hs)) → (event : Event) → HubStep h event x.answer r.0
        → CameUnder h.catalog (stream_of (own_before k event x.answer (own_of k hs)))
    go rest Open s = rest
    go rest (On p call) s =
        elim (eqb p k) as (λ own. CameUnder h.catalog (stream_of (if own then record { call = call; answer = x.answer } ∷ own_of k hs else own_of k hs))) [
          | true ↦ CameUnder-append h.catalog _ _ (on_current h r.0 p call x.answer s) rest
          | false ↦ rest
        ]
    go rest (Drop p) s = elim (eqb p k) as (λ own. CameUnder h.catalog (stream_of (if own then [] else own_of k hs))) [ true ↦ tt | false ↦ rest ]
    go rest (Reload catalog) s = rest

own_before-append : (k : ℕ) (event : Event) (answer : Answer) (rest : Bool) (os ps : List Own) → stays_by k event rest ≡ true
    → own_before k event answer (os ++ ps) ≡ own_before k event answer os ++ ps
own_before-append k Open answer rest os ps e = refl
own_before-append k (On p call) answer rest os ps e = grind (arith, nat_tests)
own_before-append k (Drop p) answer rest os ps e = grind (arith, nat_tests)
own_before-append k (Reload catalog) answer rest os ps e = refl

pub stays_rest : (k : ℕ) (event : Event) (rest : Bool) → stays_by k event rest ≡ true → rest ≡ true
stays_rest k Open rest e = e
stays_rest k (On p call) rest e = e
stays_rest k (Drop p) rest e = grind (arith, nat_tests)
stays_rest k (Reload catalog) rest e = e

pub own_of-append : (k : ℕ) (hs gs : List Happening) → stays k hs ≡ true → own_of k (hs ++ gs) ≡ own_of k hs ++ own_of k gs
own_of-append k [] gs e = refl
own_of-append k (x ∷ hs) gs e =
    ap (own_before k x.event x.answer) (own_of-append k hs gs (stays_rest k x.event (stays k hs) e))
    ∙ own_before-append k x.event x.answer (stays k hs) (own_of k hs) (own_of k gs) e

stream_of-append : (os ps : List Own) → stream_of (os ++ ps) ≡ stream_of os ++ stream_of ps
stream_of-append [] ps = refl
stream_of-append (o ∷ os) ps =
    ap (λ s. came_with o.call o.answer ++ s) (stream_of-append os ps) ∙ sym (append_assoc (came_with o.call o.answer) (stream_of os) (stream_of ps))

-- a run of two parts
record Halves (h e : HubOf) (hs gs : List Happening) : Type 0 where
  mid : HubOf
  first : HubRun h hs mid
  second : HubRun mid gs e

halves : (h e : HubOf) (hs gs : List Happening) → HubRun h (hs ++ gs) e → Halves h e hs gs
halves h e [] gs r = record { mid = h; first = refl; second = r }
halves h e (x ∷ hs) gs r =
    let rest : Halves r.0 e hs gs = halves r.0 e hs gs r.2 in
    record { mid = rest.mid; first = (r.0, r.1, rest.first); second = rest.second }

pub splits : OneCut → CutsJoin → (h e : HubOf) (k : ℕ) (newer : CatalogOf) (before after : List Happening)
    → HubRun h (opened k ∷ (before ++ reload newer ∷ after)) e
    → has_reload before ≡ false → has_reload after ≡ false → stays k before ≡ true → Parts k h.catalog newer before after
splits cuts joins h e k newer before after r early late' stay =
    let two : Halves r.0 e before (reload newer ∷ after) = halves r.0 e before (reload newer ∷ after) r.2 in
    let os : List Own = own_of k (before ++ reload newer ∷ after) in
    let s : List Came = stream_of (own_of k before) in
    let t : List Came = stream_of (own_of k after) in
    let older : r.0.catalog ≡ h.catalog = open_catalog h r.0 (Opened k) r.1 in
    let renewed : two.second.0.catalog ≡ newer = ap (λ g. g.catalog) two.second.1.1 in
    let all : stream_of os ≡ s ++ t =
    ap stream_of (own_of-append k before (reload newer ∷ after) stay) ∙ stream_of-append (own_of k before) (own_of k after) in
    let f = from_open h two.mid k before (r.0, r.1, two.first) in
    let g = from_open h e k (before ++ reload newer ∷ after) r in
    let first = Keeps-own cuts joins f.last (own_of k before) f.run in
    let last = Keeps-own cuts joins g.last os g.run in
    let O : CatalogOf → Type 0 = λ n. CameUnder n s in
    let N : CatalogOf → Type 0 = λ n. CameUnder n t in
    let came : CameUnder h.catalog s = subst O older (one_catalog r.0 two.mid k before two.first early) in
    let came_later : CameUnder newer t = subst N renewed (one_catalog two.second.0 e k after two.second.2 late') in
    let heads : List Asked = first.answered ++ first.others in
    let everything : List Asked = last.answered ++ last.others in
    let C : List Came → Type 0 = λ x. AreAskedBehind [] [] x everything in
    let parts = behind_halves [] [] s t everything (subst C all last.cut.asked) in
    let same : parts.early ≡ heads = behind_one cuts [] [] s parts.early heads parts.first first.cut.asked in
    let W : List Asked → Type 0 = λ hs. IsCutUnder (stream_of os) hs last.left last.shut in
    record {
      heads = heads;
      later = parts.late;
      left = first.left;
      rest = last.left;
      closed = first.shut;
      shut = last.shut;
      earlier = first.cut;
      whole = subst W (◌∙◌ {b = parts.early ++ parts.late} parts.all_are (ap (λ (x : List Asked). x ++ parts.late) same)) last.cut;
      earlier_have = have_behind h.catalog [] [] s heads came first.cut.asked;
      later_have = have_behind newer (bytes_of s) (heads_of parts.early) t parts.late came_later parts.second;
    }
