-- What the steps of a visit come to.
use Rattle.std.proofs.Common.{◌≡◌, ℕ, ◌<◌, ◌≤◌, zero, suc, List, [], ◌∷◌, ◌++◌, take, length, Option, None, Some, Result, Ok, Err, refl, sym, ap, ◌∙◌, subst, inl, inr, arith, append-nil, length-append}
use Rattle.std.specs.Prelude.{⊤, Bool, true, false, ◌==◌}
use Rattle.std.specs.Borrow.{Bor}
use Rattle.std.proofs.lemmas.Bool.{eqb-true}
use Rattle.std.proofs.lemmas.List.{length-take-le}
use Rattle.std.specs.Io.KnownBytes.{Appends, Consumes}
use Rattle.table_store.specs.Catalog.{CatalogOf}
use Rattle.odata_hub.specs.declared.hub.Hub.{Hub}
use Rattle.odata_hub.specs.declared.answers.HubFault.{HubFault}
use Rattle.odata_hub.specs.declared.answers.HubFault.TheVariants.{Full, NoSuchConnection, Ended, Failed as HubFailed, NoMemory}
use Rattle.odata_hub.specs.declared.answers.Turned.TheVariants.{Idle, Worked as TurnWorked}
use Rattle.odata_hub.specs.Connections.{Done, End, Piece, Refused, Turn, Went, call_answer, given_by}
use Rattle.odata_hub.specs.Schedules.{On, conn_at}
use Rattle.odata_hub.specs.Stands.{IsHubStep, IsHubTook}
use Rattle.odata_rounds.specs.declared.answers.PeerFault.TheVariants.{Waits, Lost as PeerLost}
use Rattle.odata_rounds.specs.declared.answers.SlotState.{SlotState}
use Rattle.odata_rounds.specs.declared.answers.SlotState.TheVariants.{Free, Rests, Worked, Answered, Lost, Failed}
use Rattle.odata_rounds.specs.Peers.{IsRead, IsWrite, KeepsOthers, WireOf}
use Rattle.odata_rounds.specs.Visits.{AfterIdle, AfterTake, Became, IsHubRun, IsOverAt, MakesCalls, Serves, at_place, came, came_to, end, ends, gives, goes, idles, misses, none, nothing, nowhere, piece, reads, took, turned, waits, went, wrote}
use Rattle.odata_rounds.proofs.ByteLemmas.{consumes_none, keeps_appends, keeps_consumes, read_out}
use Rattle.odata_rounds.proofs.LendLemmas.{Lends, has_output, is_dry, is_free, run_took}
use Rattle.odata_rounds.proofs.RunLemmas.{run_none, run_one, run_step}

-- ---- answers to pieces and ends

came_output : (answer : Result ⊤ HubFault) → given_by (call_answer (λ _. Done) answer) ++ [] ≡ []
came_output (Ok u) = refl
came_output (Err fault) = refl

came_became : (answer : Result ⊤ HubFault) (hub : Hub) (place : ℕ) (old new : WireOf)
    → Became (came_to answer) hub place old new [] (came (call_answer (λ _. Done) answer))
came_became (Ok u) hub place old new = inr refl
came_became (Err Full) hub place old new = (Full, inr (λ e. absurd (cc e), refl))
came_became (Err NoSuchConnection) hub place old new = (NoSuchConnection, inr (λ e. absurd (cc e), refl))
came_became (Err HubFailed) hub place old new = (HubFailed, inr (λ e. absurd (cc e), refl))
came_became (Err Ended) hub place old new = inl refl
came_became (Err NoMemory) hub place old new = (NoMemory, inr (λ e. absurd (cc e), refl))

pub came_became_by : (answer : Result ⊤ HubFault) (state : SlotState) (hub : Hub) (place : ℕ) (old new : WireOf) → state ≡ came_to answer
    → Became state hub place old new [] (came (call_answer (λ _. Done) answer))
came_became_by answer state hub place old new e =
    let P : SlotState → Type 0 = λ x. Became x hub place old new [] (came (call_answer (λ _. Done) answer)) in
    subst P (sym e) (came_became answer hub place old new)

-- ---- what is read of an idle connection's socket

pub read_end : (place : ℕ) (a b : Hub) (w v : ℕ → WireOf) (buf : List ℕ) (n : ℕ) (answer : Result ⊤ HubFault) (state : SlotState)
    → n ≡ 0 → 0 < length buf → IsRead (w place) (v place) buf (Ok n) → KeepsOthers place w v → IsOverAt a place false
    → IsHubStep a (On place End) (call_answer (λ _. Done) answer) b → state ≡ came_to answer → MakesCalls AfterIdle place a b w v state
read_end place a b w v buf zero answer state e lt r others not_over step is = record {
  os = end (call_answer (λ _. Done) answer) ∷ [];
  last = came (call_answer (λ _. Done) answer);
  kind = ends (call_answer (λ _. Done) answer);
  run = run_one a b (On place End) (call_answer (λ _. Done) answer) step not_over;
  output = came_output answer;
  socket = r.socket;
  taken = r.taken;
  left = r.left.0;
  ended = λ _. read_out _ _ _ r.left.0 (r.left.1 refl lt);
  became = came_became_by answer state b place (w place) (v place) is;
  others = others;
}
read_end place a b w v buf (suc n) answer state e lt r others not_over step is = absurd (omega arith)

piece_of_bytes : (place : ℕ) (a b : Hub) (w v : ℕ → WireOf) (bytes : List ℕ) (catalog : CatalogOf) (answer : Result ⊤ HubFault) (state : SlotState)
    → 0 < length bytes → Consumes (w place).left (v place).left bytes → (v place).taken ≡ (w place).taken → (v place).socket ≡ (w place).socket
    → KeepsOthers place w v → IsOverAt a place false → IsHubStep a (On place (Piece catalog bytes)) (call_answer (λ _. Done) answer) b → state ≡ came_to answer → MakesCalls AfterIdle place a b w v state
piece_of_bytes place a b w v [] catalog answer state lt left taken socket others not_over step is = absurd (omega arith)
piece_of_bytes place a b w v (x ∷ bytes) catalog answer state lt left taken socket others not_over step is =
    let P : List ℕ → Type 0 = λ l. Consumes (w place).left (v place).left l in record {
      os = piece catalog (x ∷ bytes) (call_answer (λ _. Done) answer) ∷ [];
      last = came (call_answer (λ _. Done) answer);
      kind = reads catalog x bytes (call_answer (λ _. Done) answer);
      run = run_one a b (On place (Piece catalog (x ∷ bytes))) (call_answer (λ _. Done) answer) step not_over;
      output = came_output answer;
      socket = socket;
      taken = taken;
      left = subst P (sym (append-nil (x ∷ bytes))) left;
      ended = λ no. absurd (cc no);
      became = came_became_by answer state b place (w place) (v place) is;
      others = others;
    }

pub read_piece : (place : ℕ) (a b : Hub) (w v : ℕ → WireOf) (buf : List ℕ) (n : ℕ) (catalog : CatalogOf) (answer : Result ⊤ HubFault)
    (state : SlotState) → 0 < n → IsRead (w place) (v place) buf (Ok n) → KeepsOthers place w v → IsOverAt a place false
    → IsHubStep a (On place (Piece catalog (take n buf))) (call_answer (λ _. Done) answer) b → state ≡ came_to answer
    → MakesCalls AfterIdle place a b w v state
read_piece place a b w v buf n catalog answer state lt r others not_over step is =
    let some : length (take n buf) ≡ n = sym r.bound.1 in
    piece_of_bytes place a b w v (take n buf) catalog answer state (omega arith) r.left.0 r.taken r.socket others not_over step is

pub read_waits : (place : ℕ) (a : Hub) (w v : ℕ → WireOf) (buf : List ℕ) → IsRead (w place) (v place) buf (Err Waits) → KeepsOthers place w v
    → IsOverAt a place false → MakesCalls AfterIdle place a a w v Rests
read_waits place a w v buf r others not_over = record {
  os = [];
  last = turned (Went Idle);
  kind = nothing;
  run = run_none a;
  output = refl;
  socket = r.socket;
  taken = r.taken;
  left = keeps_consumes _ _ r.left;
  ended = λ no. absurd (cc no);
  became = (r.counts.0, inr (refl, not_over));
  others = others;
}

pub read_lost : (place : ℕ) (a : Hub) (w v : ℕ → WireOf) (buf : List ℕ) → IsRead (w place) (v place) buf (Err PeerLost) → KeepsOthers place w v
    → IsOverAt a place false → MakesCalls AfterIdle place a a w v Lost
read_lost place a w v buf r others not_over = record {
  os = [];
  last = turned (Went Idle);
  kind = nothing;
  run = run_none a;
  output = refl;
  socket = r.socket;
  taken = r.taken;
  left = keeps_consumes _ _ r.left;
  ended = λ no. absurd (cc no);
  became = (r.counts.1, inr (refl, not_over));
  others = others;
}

pub idle_over : (place : ℕ) (a : Hub) (w : ℕ → WireOf) → IsOverAt a place true → MakesCalls AfterIdle place a a w w Answered
idle_over place a w over = record {
  os = [];
  last = turned (Went Idle);
  kind = nothing;
  run = run_none a;
  output = refl;
  socket = refl;
  taken = refl;
  left = consumes_none _ _ refl;
  ended = λ no. absurd (cc no);
  became = inr (refl, over, refl);
  others = λ other away. refl;
}

-- ---- turns

pub turn_worked : (place : ℕ) (a b : Hub) (w : ℕ → WireOf) → IsHubStep a (On place Turn) (Went TurnWorked) b
    → MakesCalls AfterTake place a b w w Worked
turn_worked place a b w step = record {
  os = went (Went TurnWorked) ∷ [];
  last = turned (Went TurnWorked);
  kind = goes (Went TurnWorked);
  run = run_one a b (On place Turn) (Went TurnWorked) step (λ h stands. tt);
  output = refl;
  socket = refl;
  taken = refl;
  left = consumes_none _ _ refl;
  ended = λ no. absurd (cc no);
  became = inl refl;
  others = λ other away. refl;
}

pub turn_refused : (place : ℕ) (a b : Hub) (w : ℕ → WireOf) (fault : HubFault) → IsHubStep a (On place Turn) (Refused fault) b
    → MakesCalls AfterTake place a b w w Failed
turn_refused place a b w fault step = record {
  os = went (Refused fault) ∷ [];
  last = turned (Refused fault);
  kind = goes (Refused fault);
  run = run_one a b (On place Turn) (Refused fault) step (λ h stands. tt);
  output = refl;
  socket = refl;
  taken = refl;
  left = consumes_none _ _ refl;
  ended = λ no. absurd (cc no);
  became = (fault, inl refl);
  others = λ other away. refl;
}

pub turn_idle : (place : ℕ) (a b c : Hub) (w v : ℕ → WireOf) (state : SlotState) → IsHubStep a (On place Turn) (Went Idle) b
    → MakesCalls AfterIdle place b c w v state → MakesCalls AfterTake place a c w v state
turn_idle place a b c w v state step rest = record {
  os = went (Went Idle) ∷ rest.os;
  last = rest.last;
  kind = idles rest.last rest.os rest.kind;
  run = run_step a b c (On place Turn) (Went Idle) (at_place place rest.os) step (λ h stands. tt) rest.run;
  output = rest.output;
  socket = rest.socket;
  taken = rest.taken;
  left = rest.left;
  ended = rest.ended;
  became = rest.became;
  others = rest.others;
}

-- ---- whole visits

pub appends_none : (a b : Option (List ℕ)) → b ≡ a → Appends a b []
appends_none None b e = tt
appends_none (Some xs) None e = absurd (cc e)
appends_none (Some xs) (Some ys) e = let same : ys ≡ xs = cc e in same ∙ sym (append-nil xs)

wrote_of : (place n : ℕ) (a b : Hub) (w v : ℕ → WireOf) (given : List ℕ) → 0 < length given → IsHubRun a (at_place place (took n given ∷ [])) b
    → Appends (w place).taken (v place).taken given → (v place).left ≡ (w place).left → (v place).socket ≡ (w place).socket
    → KeepsOthers place w v → Serves place a b w v Worked
wrote_of place n a b w v [] lt run taken left socket others = absurd (omega arith)
wrote_of place n a b w v (y ∷ given) lt run taken left socket others =
    let P : List ℕ → Type 0 = λ l. Appends (w place).taken (v place).taken l in record {
      os = took n (y ∷ given) ∷ [];
      last = wrote;
      visit = gives n y given;
      run = run;
      moves = record { socket = socket; taken = subst P (sym (append-nil (y ∷ given))) taken; left = consumes_none _ _ left; ended = λ no. absurd (cc no) };
      became = tt;
      others = others;
    }

-- the socket took bytes of the output
pub serves_wrote : (place : ℕ) (a b : Hub) (w v : ℕ → WireOf) (bytes : Bor (List ℕ)) (n : ℕ) → Lends a place (Ok bytes) → 0 < length bytes.now
    → IsWrite (w place) (v place) bytes.now (Ok n) → KeepsOthers place w v → IsHubTook a place n b → Serves place a b w v Worked
serves_wrote place a b w v bytes n lends lt r others taken =
    let some : 0 < n = r.some lt in
    let le : n ≤ length bytes.now = r.bound in
    let long : length (take n bytes.now) ≡ n = length-take-le n bytes.now le in
    wrote_of place n a b w v (take n bytes.now) (omega (arith, some, long)) (run_took place n a b bytes lends le taken) r.taken r.left r.socket others

-- it took nothing for now
pub serves_rests : (place : ℕ) (a : Hub) (w v : ℕ → WireOf) (bytes : Bor (List ℕ)) → Lends a place (Ok bytes) → 0 < length bytes.now
    → IsWrite (w place) (v place) bytes.now (Err Waits) → KeepsOthers place w v → Serves place a a w v Rests
serves_rests place a w v bytes lends lt r others = record {
  os = [];
  last = wrote;
  visit = waits;
  run = run_none a;
  moves = record { socket = r.socket; taken = keeps_appends _ _ r.taken; left = consumes_none _ _ r.left; ended = λ no. absurd (cc no) };
  became = (r.counts.0, inl (refl, λ h s. has_output (conn_at h place) bytes lt (lends h s)));
  others = others;
}

-- it is lost
pub serves_lost : (place : ℕ) (a : Hub) (w v : ℕ → WireOf) (bytes : Bor (List ℕ)) → Lends a place (Ok bytes) → 0 < length bytes.now
    → IsWrite (w place) (v place) bytes.now (Err PeerLost) → KeepsOthers place w v → Serves place a a w v Lost
serves_lost place a w v bytes lends lt r others = record {
  os = [];
  last = wrote;
  visit = waits;
  run = run_none a;
  moves = record { socket = r.socket; taken = keeps_appends _ _ r.taken; left = consumes_none _ _ r.left; ended = λ no. absurd (cc no) };
  became = (r.counts.1, inl (refl, λ h s. has_output (conn_at h place) bytes lt (lends h s)));
  others = others;
}

-- there is no output
pub serves_dry : (place : ℕ) (a b : Hub) (w v : ℕ → WireOf) (bytes : Bor (List ℕ)) (state : SlotState) → Lends a place (Ok bytes) → length bytes.now ≡ 0
    → MakesCalls AfterTake place a b w v state → Serves place a b w v state
serves_dry place a b w v bytes state lends empty x =
    let P : List ℕ → Type 0 = λ l. Appends (w place).taken (v place).taken l in
    let Q : List ℕ → Type 0 = λ l. Became state b place (w place) (v place) l x.last in record {
      os = x.os;
      last = x.last;
      visit = none (λ h s. is_dry (conn_at h place) bytes empty (lends h s)) x.last x.os x.kind;
      run = x.run;
      moves = record { socket = x.socket; taken = subst P (sym x.output) (appends_none _ _ x.taken); left = x.left; ended = x.ended };
      became = subst Q (sym x.output) x.became;
      others = x.others;
    }

-- there is no connection
pub serves_free : (place : ℕ) (a : Hub) (w : ℕ → WireOf) (fault : HubFault) → Lends a place (Err fault) → Serves place a a w w Free
serves_free place a w fault lends = record {
  os = [];
  last = nowhere;
  visit = misses;
  run = run_none a;
  moves = record { socket = refl; taken = appends_none _ _ refl; left = consumes_none _ _ refl; ended = λ no. absurd (cc no) };
  became = (refl, λ h s. is_free (conn_at h place) fault (lends h s));
  others = λ other away. refl;
}

pub is_empty : (xs : List ℕ) (b : Bool) → b ≡ (length xs == 0) → b ≡ true → length xs ≡ 0
is_empty xs b e t = eqb-true (length xs) 0 (sym e ∙ t)

pub is_some : (xs : List ℕ) (b : Bool) → b ≡ (length xs == 0) → b ≡ false → 0 < length xs
is_some [] b e t = let bad : false ≡ true = sym t ∙ e in absurd (cc bad)
is_some (x ∷ xs) b e t = omega arith
