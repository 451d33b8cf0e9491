-- Lives that lead from a server as it was to the server as it is.
use Rattle.std.proofs.Common.{◌≡◌, ℕ, zero, suc, List, [], ◌∷◌, ◌++◌, set, Option, None, Some, Result, Ok, Err, refl, sym, ap, subst, ◌∙◌, inl, inr, IfOk, OnErr}
use Rattle.std.specs.Prelude.{⊤, MatchOption, slice_get}
use Rattle.table_store.specs.Catalog.{CatalogOf}
use Rattle.odata_hub.specs.declared.answers.HubFault.{HubFault}
use Rattle.odata_hub.specs.declared.hub.Conn.{Conn}
use Rattle.odata_hub.specs.declared.hub.Hub.{Hub}
use Rattle.odata_hub.specs.Connections.{Answer, Opened, call_answer}
use Rattle.odata_hub.specs.Schedules.{Drop, Open}
use Rattle.odata_hub.specs.Stands.{IsHubStep}
use Rattle.served_folders.specs.declared.folders.FolderFault.{FolderFault}
use Rattle.exit_statuses.specs.declared.fault.ProgramFault.{ProgramFault}
use Rattle.odata_rounds.specs.declared.answers.SlotState.{SlotState}
use Rattle.odata_rounds.specs.declared.answers.SlotState.TheVariants.{Free, Rests, Worked, Answered, Lost, Failed}
use Rattle.odata_rounds.specs.declared.slot.Slot.{Slot}
use Rattle.odata_rounds.specs.Lives.{AreSettled, Clears, Deed, Frees as Gives, IsDeed, IsSettledBy, KeepsSocket, Lives, Opens, Refuses, Reloads, Stands, Visits, free_slot}
use Rattle.odata_rounds.specs.Sights.{ServesAt, SightOf}
use Rattle.listen_sockets.specs.declared.peer.Peer.{Peer}
use Rattle.listen_sockets.specs.declared.server.Server.{Server}
use Rattle.listen_sockets.specs.declared.slow.Due.{Due}
use Rattle.listen_sockets.specs.declared.slow.Due.TheVariants as slow
use Rattle.listen_sockets.specs.declared.sockets.Sockets.{Sockets}
use Rattle.listen_sockets.specs.declared.sockets.Wire.{Wire}
use Rattle.listen_sockets.specs.Server.{state_at}
use Rattle.listen_sockets.specs.Sights.{sight_of}
use Rattle.listen_sockets.specs.Sockets.{IsPut, OthersStay, SocketsStay, socket_at, wire_at, wire_of}
use Rattle.odata_listen.specs.Serving.{EndsSlow, Frees, IsKept, MayReload, RunsOn, RunsTo, Settles, Stays, TakesPeerIn, opens, refuses}
use Rattle.odata_listen.specs.Watch.{HandsOver}

-- ---- sockets that tell no bytes

untold_left : (o : Option Wire) → (wire_of o).left ≡ None
untold_left None = refl
untold_left (Some wire) = refl

untold_taken : (o : Option Wire) → (wire_of o).taken ≡ None
untold_taken None = refl
untold_taken (Some wire) = refl

-- a place that has the socket that it had keeps it
keeps_socket : (xs ys : List Wire) (place : ℕ) → socket_at ys place ≡ socket_at xs place → KeepsSocket (wire_at xs place) (wire_at ys place)
keeps_socket xs ys place same = (
  same,
  untold_left (slice_get ys place) ∙ sym (untold_left (slice_get xs place)),
  untold_taken (slice_get ys place) ∙ sym (untold_taken (slice_get xs place)),
)

-- ---- lives

pub runs_none : (a : Server) → RunsTo a a
runs_none a = record { deeds = []; life = refl }

runs_one : (a b : Server) (deed : Deed) → IsDeed deed (sight_of a) (sight_of b) → RunsTo a b
runs_one a b deed d = record { deeds = deed ∷ []; life = (sight_of b, d, refl) }

lives_join : (xs ys : List Deed) (a b c : SightOf) → Lives a xs b → Lives b ys c → Lives a (xs ++ ys) c
lives_join [] ys a b c l m = let P : SightOf → Type 0 = λ x. Lives x ys c in subst P l m
lives_join (x ∷ xs) ys a b c l m = (l.0, l.1, lives_join xs ys l.0 b c l.2 m)

pub runs_join : (a b c : Server) → RunsTo a b → RunsTo b c → RunsTo a c
runs_join a b c r s = record { deeds = r.deeds ++ s.deeds; life = lives_join r.deeds s.deeds (sight_of a) (sight_of b) (sight_of c) r.life s.life }

runs_kept : (a b : Server) → IsKept a b → RunsTo a b
runs_kept a b k = runs_one a b Stands
    (k.hub, record { slots = k.slots; sockets = λ place. keeps_socket a.sockets.wires.items b.sockets.wires.items place (k.stay place) })

clears : (place : ℕ) (a b : Server) → b.slots.items ≡ set a.slots.items place free_slot
    → OthersStay place a.sockets.wires.items b.sockets.wires.items → Clears place (sight_of a) (sight_of b)
clears place a b slots others = record {
  slots = slots;
  sockets = λ other away. keeps_socket a.sockets.wires.items b.sockets.wires.items other (others other away);
}

pub stays_kept : (a b : Server) → Stays a b → IsKept a b
stays_kept a b k = record { hub = k.hub; slots = k.slots; stay = λ place. ap (λ (l : List Wire). socket_at l place) k.sockets }

-- ---- places that are settled

settled_put : (slots : List Slot) (place : ℕ) (next : Slot) → IsSettledBy next.state → AreSettled slots → AreSettled (set slots place next)
settled_put [] place next k s = s
settled_put (slot ∷ slots) zero next k s = (k, s.1)
settled_put (slot ∷ slots) (suc place) next k s = (s.0, settled_put slots place next k s.1)

settled_free : (slots : List Slot) (place : ℕ) → AreSettled slots → AreSettled (set slots place free_slot)
settled_free slots place s = settled_put slots place free_slot tt s

settled_twice : (slots : List Slot) (place : ℕ) (next : Slot) → AreSettled slots → AreSettled (set (set slots place next) place free_slot)
settled_twice [] place next s = s
settled_twice (slot ∷ slots) zero next s = (tt, s.1)
settled_twice (slot ∷ slots) (suc place) next s = (s.0, settled_twice slots place next s.1)

-- what settling makes of what is kept, by what became of the place
slots_after : SlotState → ℕ → List Slot → List Slot
slots_after Free place slots = slots
slots_after Rests place slots = slots
slots_after Worked place slots = slots
slots_after Answered place slots = set slots place free_slot
slots_after Lost place slots = set slots place free_slot
slots_after Failed place slots = set slots place free_slot

after_settles : (now : ℕ) (state : SlotState) (place : ℕ) (a b : Server) → Settles now state place a b → b.slots.items ≡ slots_after state place a.slots.items
unfolding slots_after
after_settles now Free place a b k = k.slots
after_settles now Rests place a b k = k.slots
after_settles now Worked place a b k = k.kept.slots
after_settles now Answered place a b f = f.slots
after_settles now Lost place a b f = f.slots
after_settles now Failed place a b f = f.slots

put_as : (slots : List Slot) (place : ℕ) (next : Slot) (state : SlotState) → next.state ≡ state → IsSettledBy state → AreSettled slots
    → AreSettled (set slots place next)
put_as slots place next state e k s = let P : SlotState → Type 0 = λ x. IsSettledBy x in settled_put slots place next (subst P (sym e) k) s

settled_after : (state : SlotState) (slots : List Slot) (place : ℕ) (next : Slot) → next.state ≡ state → AreSettled slots
    → AreSettled (slots_after state place (set slots place next))
unfolding slots_after
settled_after Free slots place next e s = put_as slots place next Free e tt s
settled_after Rests slots place next e s = put_as slots place next Rests e tt s
settled_after Worked slots place next e s = put_as slots place next Worked e tt s
settled_after Answered slots place next e s = settled_twice slots place next s
settled_after Lost slots place next e s = settled_twice slots place next s
settled_after Failed slots place next e s = settled_twice slots place next s

state_set : (slots : List Slot) (place : ℕ) (slot next : Slot) → slice_get slots place ≡ Some slot → state_at (set slots place next) place ≡ next.state
state_set [] place slot next e = absurd (cc e)
state_set (x ∷ slots) zero slot next e = refl
state_set (x ∷ slots) (suc place) slot next e = state_set slots place slot next e

-- after a visit that was settled each place is settled, where each was before
settled_visit : (now place : ℕ) (a m n b : Server) → ServesAt place (sight_of a) (sight_of m) → n.slots.items ≡ m.slots.items
    → Settles now (state_at n.slots.items place) place n b → AreSettled a.slots.items → AreSettled b.slots.items
settled_visit now place a m n b s same settles k =
    let slots : n.slots.items ≡ set a.slots.items place s.next = same ∙ s.slots_are in
    let state : state_at n.slots.items place ≡ s.next.state =
    ap (λ (l : List Slot). state_at l place) slots ∙ state_set a.slots.items place s.slot s.next s.slot_is in
    let P : SlotState → Type 0 = λ x. Settles now x place n b in
    let Q : List Slot → Type 0 = λ l. AreSettled l in
    let after = after_settles now s.next.state place n b (subst P state settles) in
    subst Q (sym (after ∙ ap (λ (l : List Slot). slots_after s.next.state place l) slots))
    (settled_after s.next.state a.slots.items place s.next refl k)

-- ---- lives where each place is settled

pub on_none : (a : Server) → RunsOn a a
on_none a = record { runs = λ s. runs_none a; settled = λ s. s }

pub on_join : (a b c : Server) → RunsOn a b → RunsOn b c → RunsOn a c
on_join a b c r t = record { runs = λ s. runs_join a b c (r.runs s) (t.runs (r.settled s)); settled = λ s. t.settled (r.settled s) }

pub on_same : (a b : Server) → b ≡ a → RunsOn a b
on_same a b e = let P : Server → Type 0 = λ x. RunsOn a x in subst P (sym e) (on_none a)

pub on_kept : (a b : Server) → IsKept a b → RunsOn a b
on_kept a b k = let P : List Slot → Type 0 = λ x. AreSettled x in record { runs = λ s. runs_kept a b k; settled = λ s. subst P (sym k.slots) s }

pub on_stays : (a b : Server) → Stays a b → RunsOn a b
on_stays a b k = on_kept a b (stays_kept a b k)

-- a place was given back, whatever became of the streams
pub on_given : (place : ℕ) (answer : Answer) (a b : Server) → IsHubStep a.hub (Drop place) answer b.hub
    → b.slots.items ≡ set a.slots.items place free_slot → OthersStay place a.sockets.wires.items b.sockets.wires.items → RunsOn a b
on_given place answer a b step slots others = let P : List Slot → Type 0 = λ x. AreSettled x in record {
  runs = λ s. runs_one a b (Gives place answer) (step, clears place a b slots others);
  settled = λ s. subst P (sym slots) (settled_free a.slots.items place s);
}

pub on_free : (place : ℕ) (a b : Server) → Frees place a b → RunsOn a b
on_free place a b f = on_given place f.answer a b f.step f.slots f.others

on_settled : (now : ℕ) (state : SlotState) (place : ℕ) (a b : Server) → Settles now state place a b → RunsOn a b
on_settled now Free place a b k = on_stays a b k
on_settled now Rests place a b k = on_stays a b k
on_settled now Worked place a b k = on_kept a b k.kept
on_settled now Answered place a b f = on_free place a b f
on_settled now Lost place a b f = on_free place a b f
on_settled now Failed place a b f = on_free place a b f

-- what settling leads to, whatever is settled before
runs_settled : (now : ℕ) (state : SlotState) (place : ℕ) (a b : Server) → Settles now state place a b → RunsTo a b
runs_settled now Free place a b k = runs_kept a b (stays_kept a b k)
runs_settled now Rests place a b k = runs_kept a b (stays_kept a b k)
runs_settled now Worked place a b k = runs_kept a b k.kept
runs_settled now Answered place a b f = runs_one a b (Gives place f.answer) (f.step, clears place a b f.slots f.others)
runs_settled now Lost place a b f = runs_one a b (Gives place f.answer) (f.step, clears place a b f.slots f.others)
runs_settled now Failed place a b f = runs_one a b (Gives place f.answer) (f.step, clears place a b f.slots f.others)

same_sight : (a b : Server) → sight_of b ≡ sight_of a → IsKept a b
same_sight a b e = record {
  hub = ap (λ (s : SightOf). s.hub) e;
  slots = ap (λ (s : SightOf). s.slots) e;
  stay = λ place. ap (λ (s : SightOf). (s.wires place).socket) e;
}

-- a visit, and what became of its place is settled
pub visited_by : (now place : ℕ) (a m n b : Server) (o : Option Slot)
    → MatchOption o (sight_of m ≡ sight_of a) (λ slot. ServesAt place (sight_of a) (sight_of m)) → IsKept m n
    → Settles now (state_at n.slots.items place) place n b → RunsOn a b
visited_by now place a m n b None e same k =
    on_join a m b (on_kept a m (same_sight a m e)) (on_join m n b (on_kept m n same) (on_settled now (state_at n.slots.items place) place n b k))
visited_by now place a m n b (Some slot) s same k = record {
  runs = λ t.
      runs_join a m b (runs_one a m (Visits place) (t, s))
      (runs_join m n b (runs_kept m n same) (runs_settled now (state_at n.slots.items place) place n b k));
  settled = settled_visit now place a m n b s same.slots k;
}

pub on_slow : (now : ℕ) (due : Due) (place : ℕ) (a b : Server) → EndsSlow now due place a b → RunsOn a b
on_slow now slow.Nothing place a b k = on_stays a b k
on_slow now slow.End place a b k = on_kept a b k.kept
on_slow now slow.Drop place a b f = on_free place a b f
on_slow now slow.TooLong place a b f = on_free place a b f

pub on_reload : (a b : Server) → MayReload a.hub b.hub → b.slots.items ≡ a.slots.items
    → SocketsStay a.sockets.wires.items b.sockets.wires.items → RunsOn a b
on_reload a b (inl e) slots stay = on_kept a b (record { hub = e; slots = slots; stay = stay })
on_reload a b (inr s) slots stay = let P : List Slot → Type 0 = λ x. AreSettled x in record {
  runs = λ t. runs_one a b (Reloads s.0) (
    s.1,
    record { slots = slots; sockets = λ place. keeps_socket a.sockets.wires.items b.sockets.wires.items place (stay place) },
  );
  settled = λ t. subst P (sym slots) t;
}

-- a connection was opened, or refused
pub on_open : (a b : Server) (r : Result Conn HubFault) → IsHubStep a.hub Open (call_answer (λ conn. Opened conn.0) r) b.hub
    → IfOk r (λ conn. b.slots.items ≡ set a.slots.items conn.0 free_slot) → OnErr r (b.slots.items ≡ a.slots.items)
    → IfOk r (λ conn. OthersStay conn.0 a.sockets.wires.items b.sockets.wires.items) → OnErr r (b.sockets ≡ a.sockets) → RunsOn a b
on_open a b (Ok conn) step news keeps others same = let P : List Slot → Type 0 = λ x. AreSettled x in record {
  runs = λ s. runs_one a b (Opens conn.0) (step, clears conn.0 a b news others);
  settled = λ s. subst P (sym news) (settled_free a.slots.items conn.0 s);
}
on_open a b (Err fault) step news keeps others same = let P : List Slot → Type 0 = λ x. AreSettled x in record {
  runs = λ s. runs_one a b (Refuses fault) (
    step,
    record {
      slots = keeps;
      sockets = λ place. keeps_socket a.sockets.wires.items b.sockets.wires.items place (ap (λ (x : Sockets). socket_at x.wires.items place) same);
    },
  );
  settled = λ s. subst P (sym keeps) s;
}

-- the socket of a connection that was opened was put at its place; where none was, the hub says why
pub takes_open : (peer : Peer) (a b : Server) (r : Result Conn HubFault) → IsHubStep a.hub Open (call_answer (λ conn. Opened conn.0) r) b.hub
    → IfOk r (λ conn. IsPut conn.0 peer a.sockets.wires.items b.sockets.wires.items) → TakesPeerIn peer a b
takes_open peer a b (Ok conn) step put = opens conn.0 step put
takes_open peer a b (Err fault) step put = refuses fault step

-- ---- other tables

pub may_hand_over : (loaded : Result CatalogOf FolderFault) (a b : Hub) (r : Result ⊤ ProgramFault) → HandsOver loaded a b r → MayReload a b
may_hand_over (Ok catalog) a b (Ok u) h = inr (catalog, h)
may_hand_over (Ok catalog) a b (Err fault) h = inl h.1
may_hand_over (Err fault) a b (Ok u) h = absurd h
may_hand_over (Err fault) a b (Err other) h = inl h.1
