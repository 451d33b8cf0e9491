-- Rounds lead from a server as it was to the server as it is.
use Rattle.std.proofs.Common.{◌≡◌, ℕ, zero, suc, ap}
use Rattle.std.specs.Prelude.{Bool, true, false, ◌==◌, MatchBool, slice_get}
use Rattle.listen_sockets.specs.Sockets.{is_awake_at, is_heavy_at, is_lost_at}
use Rattle.odata_listen.specs.declared.turns.Circle.{Circle}
use Rattle.odata_listen.specs.declared.turns.Circles.{Circles}
use Rattle.odata_listen.specs.declared.limits.KeptLimits.{KeptLimits}
use Rattle.odata_listen.specs.declared.limits.Terms.{Terms}
use Rattle.listen_sockets.specs.declared.server.Server.{Server}
use Rattle.odata_listen.specs.Limits.{are_passed, EndsOver}
use Rattle.odata_listen.specs.Serving.{Frees, RunsOn}
use Rattle.odata_listen.specs.Turns.{AreVisits, GoesRound, HasTurn, HasTurnBy, IsRound, Served, Turns, Visited, turn_at}
use Rattle.odata_listen.proofs.ServingLemmas.{on_free, on_join, on_same, visited_by}

on_over_by : (passed : Bool) (place : ℕ) (a b : Server) → MatchBool passed (Frees place a b) (b ≡ a) → RunsOn a b
on_over_by true place a b f = on_free place a b f
on_over_by false place a b e = on_same a b e

on_over : (limits : KeptLimits) (place : ℕ) (a b : Server) → EndsOver limits place a b → RunsOn a b
on_over limits place a b e = on_over_by (are_passed limits e.kept) place a b e.ends

on_visited : (terms : Terms) (place : ℕ) (a b : Served) → Visited terms place a b → RunsOn a.server b.server
on_visited terms place a b v =
    on_join a.server v.settled.server b.server
    (visited_by terms.poller.now.second place a.server v.mid v.charged.server v.settled.server (slice_get a.server.slots.items place) v.visit v.charge.kept v.settles)
    (on_over terms.kept place v.settled.server b.server v.ends)

on_served : (a b : Served) → b ≡ a → RunsOn a.server b.server
on_served a b e = on_same a.server b.server (ap (λ (s : Served). s.server) e)

on_visits : (visits : ℕ) (terms : Terms) (place : ℕ) (a b : Served) → AreVisits visits terms place a b → RunsOn a.server b.server
on_visits zero terms place a b e = on_served a b e
on_visits (suc visits) terms place a b v = on_join a.server v.0.server b.server (on_visits visits terms place a v.0 v.1) (on_visited terms place v.0 b v.2)

on_turn_by : (awake lost : Bool) (terms : Terms) (place : ℕ) (a b : Served) → HasTurnBy awake lost terms place a b → RunsOn a.server b.server
on_turn_by false lost terms place a b e = on_served a b e
on_turn_by true true terms place a b f = on_free place a.server b.server f.0
on_turn_by true false terms place a b v =
    on_join a.server v.0.server b.server (on_visits v.1.visits terms place a v.0 v.1.are)
    (on_same v.0.server b.server (ap (λ (s : Served). s.server) v.2))

on_turn : (terms : Terms) (place : ℕ) (a b : Served) → HasTurn terms place a b → RunsOn a.server b.server
on_turn terms place a b t =
    on_turn_by (is_awake_at a.server.sockets.wires.items place) (is_lost_at a.server.sockets.wires.items place) terms place a b t

on_turn_if : (is heavy : Bool) (terms : Terms) (place : ℕ) (a b : Served)
    → MatchBool is (MatchBool heavy (HasTurn terms place a b) (b ≡ a)) (MatchBool heavy (b ≡ a) (HasTurn terms place a b)) → RunsOn a.server b.server
on_turn_if true true terms place a b t = on_turn terms place a b t
on_turn_if true false terms place a b e = on_served a b e
on_turn_if false true terms place a b e = on_served a b e
on_turn_if false false terms place a b t = on_turn terms place a b t

on_turns : (turns : ℕ) (heavy : Bool) (terms : Terms) (places from next : ℕ) (a b : Served) → Turns turns heavy terms places from next a b
    → RunsOn a.server b.server
on_turns zero heavy terms places from next a b t = on_served a b t.1
on_turns (suc turns) heavy terms places from next a b t =
    on_join a.server t.1.server b.server (on_turns turns heavy terms places from t.0 a t.1 t.2)
    (on_turn_if (is_heavy_at t.1.server.sockets.wires.items (turn_at places t.0)) heavy terms (turn_at places t.0) t.1 b t.3)

on_circle : (terms : Terms) (before after : Circle) (a b : Served) → GoesRound terms before after a b → RunsOn a.server b.server
on_circle terms before after a b r = on_turns r.turns before.heavy terms before.places before.next after.next a b r.are

on_circle_if : (whole : Bool) (terms : Terms) (before after : Circle) (a b : Served)
    → MatchBool whole (GoesRound terms before after a b) ((after ≡ before) × (b ≡ a)) → RunsOn a.server b.server
on_circle_if true terms before after a b r = on_circle terms before after a b r
on_circle_if false terms before after a b r = on_served a b r.1

pub on_round : (terms : Terms) (before after : Circles) (a b : Served) → IsRound terms before after a b → RunsOn a.server b.server
on_round terms before after a b r =
    on_join a.server r.mid.server b.server (on_circle terms before.light after.light a r.mid r.light)
    (on_circle_if (after.light.left == 0) terms before.heavy after.heavy r.mid b r.heavy)
