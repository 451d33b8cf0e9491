-- What moves at a place in a life, from where a connection is opened there.
use Rattle.std.proofs.Common.{◌≡◌, ◌≢◌, ℕ, List, [], ◌∷◌, ◌++◌, Option, None, Some, refl, sym, ap, subst, ◌∙◌, inl, inr}
use Rattle.std.specs.Prelude.{⊤, Bool, true, false, ◌==◌, if◌then◌else◌}
use Rattle.std.proofs.lemmas.Bool.Decides.{eqb_tells}
use Rattle.std.specs.Io.KnownBytes.{Appends, Consumes}
use Rattle.table_store.specs.Catalog.{CatalogOf}
use Rattle.odata_hub.specs.declared.hub.Hub.{Hub}
use Rattle.odata_hub.specs.declared.answers.HubFault.{HubFault}
use Rattle.odata_hub.specs.Connections.{Answer, Call, Done, Opened, Own, Refused}
use Rattle.odata_hub.specs.Schedules.{Drop, Event, Happening, On, Open, Reload, opened, own_before, own_of}
use Rattle.odata_hub.specs.Stands.{IsHubStep}
use Rattle.odata_rounds.specs.Peers.{WireOf}
use Rattle.odata_rounds.specs.Visits.{IsHubRun, Moves}
use Rattle.odata_rounds.specs.Sights.{SightOf}
use Rattle.odata_rounds.specs.Laws.{AreCalls, IsCall, Moved, MovesAt}
use Rattle.odata_rounds.specs.Lives.{AreElsewhere, Clears, Deed, Frees, IsCarried, IsDeed, IsElsewhere, KeepsAll, KeepsSocket, Lives, LivesMove, MovesSince, Opens, Refuses, Reloads, Stands, Visits}
use Rattle.odata_rounds.proofs.RunLemmas.{run_joins, run_none, run_one, run_step}
use Rattle.odata_rounds.proofs.ByteLemmas.{consumes_none}
use Rattle.odata_rounds.proofs.VisitLemmas.{appends_none}
use Rattle.odata_rounds.proofs.LawLemmas.{moves_join, visit_moves}

-- ---- events that give back no connection at a place

abbrev pub StaysBy : ℕ → Event → Type 0
StaysBy place Open = ⊤
StaysBy place (On at call) = ⊤
StaysBy place (Drop at) = at ≢ place
StaysBy place (Reload catalog) = ⊤

abbrev pub StaysAll : ℕ → List Happening → Type 0
StaysAll place [] = ⊤
StaysAll place (h ∷ hs) = StaysBy place h.event × StaysAll place hs

own_if : (b : Bool) (o : Own) (more os ps : List Own) → more ≡ os ++ ps → (if b then o ∷ more else more) ≡ (if b then o ∷ os else os) ++ ps
own_if true o more os ps e = ap (λ l. o ∷ l) e
own_if false o more os ps e = e

own_stays : (place : ℕ) (event : Event) (answer : Answer) (more os ps : List Own) → StaysBy place event → more ≡ os ++ ps
    → own_before place event answer more ≡ own_before place event answer os ++ ps
own_stays place Open answer more os ps i e = e
own_stays place (On at call) answer more os ps i e = own_if (at == place) (record { call = call; answer = answer }) more os ps e
own_stays place (Drop at) answer more os ps i e = elim (eqb_tells at place) [
  | inl h ↦ absurd (i h.1)
  | inr h ↦ rw h.0 e
]
own_stays place (Reload catalog) answer more os ps i e = e

own_joins : (place : ℕ) (xs ys : List Happening) → StaysAll place xs → own_of place (xs ++ ys) ≡ own_of place xs ++ own_of place ys
own_joins place [] ys c = refl
own_joins place (x ∷ xs) ys c =
    own_stays place x.event x.answer (own_of place (xs ++ ys)) (own_of place xs) (own_of place ys) c.0 (own_joins place xs ys c.1)

call_stays : (place : ℕ) (event : Event) → IsCall event → StaysBy place event
call_stays place Open i = tt
call_stays place (On at call) i = tt
call_stays place (Drop at) i = absurd i
call_stays place (Reload catalog) i = tt

calls_stay : (place : ℕ) (xs : List Happening) → AreCalls xs → StaysAll place xs
calls_stay place [] c = tt
calls_stay place (x ∷ xs) c = (call_stays place x.event c.0, calls_stay place xs c.1)

stays_join : (place : ℕ) (xs ys : List Happening) → StaysAll place xs → StaysAll place ys → StaysAll place (xs ++ ys)
stays_join place [] ys c d = d
stays_join place (x ∷ xs) ys c d = (c.0, stays_join place xs ys c.1 d)

-- ---- what one deed moves at a place that it leaves alone

-- nothing moves where the same socket tells the same bytes
moves_still : (a b : WireOf) → KeepsSocket a b → Moves a b []
moves_still a b k = record { socket = k.0; taken = appends_none _ _ k.2; left = consumes_none _ _ k.1; ended = λ no. absurd (cc no) }

-- the events of a deed, and what moves at the place by them
pub record MovesBy (place : ℕ) (old new : SightOf) : Type 0 where
  pub events : List Happening
  pub stays : StaysAll place events
  pub run : IsHubRun old.hub events new.hub
  pub moves : MovesAt place old new events

cleared : (place at : ℕ) (a b : SightOf) → Clears at a b → at ≢ place → Moves (a.wires place) (b.wires place) []
cleared place at a b c away = moves_still _ _ (c.sockets place (λ e. away (sym e)))

kept : (place : ℕ) (a b : SightOf) → KeepsAll a b → Moves (a.wires place) (b.wires place) []
kept place a b k = moves_still _ _ (k.sockets place)

own_drop : (place at : ℕ) (answer : Answer) → at ≢ place → own_of place (record { event = Drop at; answer = answer } ∷ []) ≡ []
own_drop place at answer away = elim (eqb_tells at place) [
  | inl h ↦ absurd (away h.1)
  | inr h ↦ rw h.0 refl
]

deed_moves : (place : ℕ) (deed : Deed) (a b : SightOf) → IsElsewhere place deed → IsDeed deed a b → MovesBy place a b
deed_moves place (Visits at) a b away d = let m = visit_moves at a b d.1 in
    record { events = m.events; stays = calls_stay place m.events m.calls; run = m.run; moves = m.moves place }
deed_moves place (Opens at) a b away d = record {
  events = opened at ∷ [];
  stays = (tt, tt);
  run = run_one a.hub b.hub Open (Opened at) d.0 (λ h s. tt);
  moves = cleared place at a b d.1 away;
}
deed_moves place (Refuses fault) a b away d = record {
  events = record { event = Open; answer = Refused fault } ∷ [];
  stays = (tt, tt);
  run = run_one a.hub b.hub Open (Refused fault) d.0 (λ h s. tt);
  moves = kept place a b d.1;
}
deed_moves place (Frees at answer) a b away d =
    let P : List Own → Type 0 = λ os. Moves (a.wires place) (b.wires place) os in record {
      events = record { event = Drop at; answer = answer } ∷ [];
      stays = (away, tt);
      run = run_one a.hub b.hub (Drop at) answer d.0 (λ h s. tt);
      moves = subst P (sym (own_drop place at answer away)) (cleared place at a b d.1 away);
    }
deed_moves place (Reloads catalog) a b away d = record {
  events = record { event = Reload catalog; answer = Done } ∷ [];
  stays = (tt, tt);
  run = run_one a.hub b.hub (Reload catalog) Done d.0 (λ h s. tt);
  moves = kept place a b d.1;
}
deed_moves place Stands a b away d = let P : Hub → Type 0 = λ x. IsHubRun a.hub [] x in
    record { events = []; stays = tt; run = subst P (sym d.0) (run_none a.hub); moves = kept place a b d.1 }

moves_on : (place : ℕ) (a b c : SightOf) → MovesBy place a b → MovesBy place b c → MovesBy place a c
moves_on place a b c m n =
    let P : List Own → Type 0 = λ os. Moves (a.wires place) (c.wires place) os in record {
      events = m.events ++ n.events;
      stays = stays_join place m.events n.events m.stays n.stays;
      run = run_joins a.hub b.hub c.hub m.events n.events m.run n.run;
      moves = subst P (sym (own_joins place m.events n.events m.stays)) (moves_join _ _ _ _ _ m.moves n.moves);
    }

moves_same : (place : ℕ) (a b : SightOf) → b ≡ a → MovesBy place a b
moves_same place a b e = let P : SightOf → Type 0 = λ x. MovesBy place a x in
    subst P (sym e) (record { events = []; stays = tt; run = run_none a.hub; moves = moves_still _ _ (refl, refl, refl) })

life_moves : (place : ℕ) (deeds : List Deed) (a b : SightOf) → AreElsewhere place deeds → Lives a deeds b → MovesBy place a b
life_moves place [] a b away l = moves_same place a b l
life_moves place (deed ∷ deeds) a b away l =
    moves_on place a l.0 b (deed_moves place deed a l.0 away.0 l.1) (life_moves place deeds l.0 b away.1 l.2)

-- ---- a connection of a life

pub lives_split : (xs ys : List Deed) (a b : SightOf) → Lives a (xs ++ ys) b → (mid : SightOf) × Lives a xs mid × Lives mid ys b
lives_split [] ys a b l = (a, refl, l)
lives_split (x ∷ xs) ys a b l = let more = lives_split xs ys l.0 b l.2 in (more.0, (l.0, l.1, more.1), more.2)

since : (place : ℕ) (a b c : SightOf) → IsDeed (Opens place) a b → MovesBy place b c → MovesSince place a b c
since place a b c d m = record {
  events = m.events;
  run = run_step a.hub b.hub c.hub Open (Opened place) m.events d.0 (λ h s. tt) m.run;
  moves = m.moves;
}

pub lives_move : LivesMove
lives_move old new place before during after l away =
    let opens = lives_split before (Opens place ∷ (during ++ after)) old new l in
    let others = lives_split during after opens.2.0 new opens.2.2 in record {
      opening = opens.0;
      start = opens.2.0;
      end = others.0;
      earlier = opens.1;
      moves = since place opens.0 opens.2.0 others.0 opens.2.1 (life_moves place during opens.2.0 others.0 away others.1);
      later = others.2;
    }
