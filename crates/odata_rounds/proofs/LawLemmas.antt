-- What visits move, and the laws.
use Rattle.std.proofs.Common.{◌≡◌, ◌≢◌, ℕ, zero, suc, List, [], ◌∷◌, ◌++◌, Option, None, Some, refl, sym, ap, subst, ◌∙◌, inl, inr, append-nil, append_assoc}
use Rattle.std.specs.Prelude.{Bool, true, false, ◌==◌, if◌then◌else◌, ◌||◌}
use Rattle.std.proofs.lemmas.Bool.Decides.{eqb_tells}
use Rattle.std.specs.Io.KnownBytes.{Appends, Consumes}
use Rattle.std.proofs.Math.Bool.{or_assoc}
use Rattle.std.proofs.KnownBytes.{Appends-trans, Consumes-trans}
use Rattle.odata_hub.specs.Connections.{Answer, Call, End, Own, Piece, Take, Turn, came_with, ends_with, given_by, input_ended, stream_of, taken_of}
use Rattle.odata_hub.specs.Laws.{GivesReplies}
use Rattle.odata_hub.specs.Schedules.{own_of}
use Rattle.odata_hub.specs.Streams.{bytes_of}
use Rattle.odata_rounds.specs.Peers.{WireOf}
use Rattle.odata_rounds.specs.Visits.{IsReadOut, Moves, at_place, piece_of, pieces_of}
use Rattle.odata_rounds.specs.Sights.{ServesAt, SightOf}
use Rattle.odata_rounds.specs.Laws.{AllWereTaken, AreCalls, MovesAt, MovesJoin, ServesSocket, VisitMoves, WasTaken}
use Rattle.odata_rounds.proofs.ByteLemmas.{consumes_none}
use Rattle.odata_rounds.proofs.VisitLemmas.{appends_none}

-- ---- lists of calls

given_join : (os ps : List Own) → taken_of (os ++ ps) ≡ taken_of os ++ taken_of ps
given_join [] ps = refl
given_join (o ∷ os) ps = ap (λ l. given_by o.answer ++ l) (given_join os ps) ∙ sym (append_assoc (given_by o.answer) (taken_of os) (taken_of ps))

pieces_join : (os ps : List Own) → pieces_of (os ++ ps) ≡ pieces_of os ++ pieces_of ps
pieces_join [] ps = refl
pieces_join (o ∷ os) ps = ap (λ l. piece_of o.call ++ l) (pieces_join os ps) ∙ sym (append_assoc (piece_of o.call) (pieces_of os) (pieces_of ps))

ended_join : (os ps : List Own) → input_ended (os ++ ps) ≡ input_ended os || input_ended ps
ended_join [] ps = refl
ended_join (o ∷ os) ps = ap (λ b. ends_with o.call o.answer || b) (ended_join os ps)
    ∙ sym (or_assoc (ends_with o.call o.answer) (input_ended os) (input_ended ps))

none_behind : (xs ys : List ℕ) → xs ++ ys ≡ [] → ys ≡ []
none_behind [] ys e = e
none_behind (x ∷ xs) ys e = absurd (cc e)

read_out_join : (a b c : Option (List ℕ)) (xs ys : List ℕ) (p q : Bool) → Consumes a b xs → Consumes b c ys → (p ≡ true → IsReadOut a b)
    → (q ≡ true → IsReadOut b c) → p || q ≡ true → IsReadOut a c
read_out_join None b c xs ys p q s t f g e = tt
read_out_join (Some x) None c xs ys p q s t f g e = absurd s
read_out_join (Some x) (Some y) None xs ys p q s t f g e = absurd t
read_out_join (Some x) (Some y) (Some z) xs ys true q s t f g e =
    let none : y ≡ [] = cc (f refl) in
    ap Some (none_behind ys z (sym t ∙ none))
read_out_join (Some x) (Some y) (Some z) xs ys false q s t f g e = g e

pub moves_join : MovesJoin
moves_join a b c os ps p q =
    let P : List ℕ → Type 0 = λ l. Consumes a.left c.left l in
    let Q : List ℕ → Type 0 = λ l. Appends a.taken c.taken l in record {
      socket = q.socket ∙ p.socket;
      taken = subst Q (sym (given_join os ps)) (Appends-trans _ _ _ (taken_of os) (taken_of ps) p.taken q.taken);
      left = subst P (sym (pieces_join os ps)) (Consumes-trans _ _ _ (pieces_of os) (pieces_of ps) p.left q.left);
      ended = λ e. read_out_join _ _ _ (pieces_of os) (pieces_of ps) (input_ended os) (input_ended ps) p.left q.left p.ended q.ended
          (sym (ended_join os ps) ∙ e);
    }

moves_none : (w : WireOf) → Moves w w []
moves_none w = record { socket = refl; taken = appends_none _ _ refl; left = consumes_none _ _ refl; ended = λ no. absurd (cc no) }

-- ---- the own events of a place

own_here : (place : ℕ) (os : List Own) → own_of place (at_place place os) ≡ os
own_here place [] = refl
own_here place (o ∷ os) = elim (eqb_tells place place) [
  | inl h ↦ rw h.0 (ap (λ l. o ∷ l) (own_here place os))
  | inr h ↦ absurd (h.1 refl)
]

own_away : (place other : ℕ) (os : List Own) → place ≢ other → own_of other (at_place place os) ≡ []
own_away place other [] away = refl
own_away place other (o ∷ os) away = elim (eqb_tells place other) [
  | inl h ↦ absurd (away h.1)
  | inr h ↦ rw h.0 (own_away place other os away)
]

pub calls_at : (place : ℕ) (os : List Own) → AreCalls (at_place place os)
calls_at place [] = tt
calls_at place (o ∷ os) = (tt, calls_at place os)

-- ---- visits

visit_moves_here : (place : ℕ) (a b : SightOf) (s : ServesAt place a b) → MovesAt place a b (at_place place s.serves.os)
visit_moves_here place a b s =
    let P : List Own → Type 0 = λ os. Moves (a.wires place) (b.wires place) os in subst P (sym (own_here place s.serves.os)) s.serves.moves

visit_moves_away : (place other : ℕ) (a b : SightOf) (s : ServesAt place a b) → other ≢ place → MovesAt other a b (at_place place s.serves.os)
visit_moves_away place other a b s away =
    let P : List Own → Type 0 = λ os. Moves (a.wires other) (b.wires other) os in
    let Q : WireOf → Type 0 = λ w. Moves (a.wires other) w [] in
    subst P (sym (own_away place other s.serves.os (λ e. away (sym e)))) (subst Q (sym (s.serves.others other away)) (moves_none (a.wires other)))

moves_at : (place : ℕ) (a b : SightOf) (s : ServesAt place a b) (other : ℕ) → MovesAt other a b (at_place place s.serves.os)
moves_at place a b s other = elim (eqb_tells other place) [
  | inl h ↦ let P : ℕ → Type 0 = λ q. MovesAt q a b (at_place place s.serves.os) in subst P (sym h.1) (visit_moves_here place a b s)
  | inr h ↦ visit_moves_away place other a b s h.1
]

pub visit_moves : VisitMoves
visit_moves place a b s = record {
  events = at_place place s.serves.os;
  calls = calls_at place s.serves.os;
  run = s.serves.run;
  moves = moves_at place a b s;
}

-- ---- what a socket was given

stream_join : (call : Call) (answer : Answer) (os : List Own) → WasTaken call answer → bytes_of (stream_of os) ≡ pieces_of os
    → bytes_of (came_with call answer ++ stream_of os) ≡ piece_of call ++ pieces_of os
stream_join (Piece catalog bytes) answer os a e = rw a (ap (λ l. bytes ++ l) e)
stream_join End answer os a e = e
stream_join Turn answer os a e = e
stream_join (Take room) answer os a e = e

stream_is : (os : List Own) → AllWereTaken os → bytes_of (stream_of os) ≡ pieces_of os
stream_is [] a = refl
stream_is (o ∷ os) a = stream_join o.call o.answer os a.0 (stream_is os a.1)

pub serves_socket : GivesReplies → ServesSocket
serves_socket gives start end place events old new run m =
    let g = gives start end place events run in record {
      socket = m.socket;
      sent = taken_of (own_of place events);
      taken = m.taken;
      some = g.some;
      first = g.first;
      front = g.front;
      whole = λ all r. g.whole all r;
      left = m.left;
      stream = stream_is (own_of place events);
      ended = m.ended;
    }
