use Rattle.std.proofs.Common.{◌≡◌, ◌+◌}
use Rattle.odata_listen.specs.Turns.{Turns, left_of, served}
use Rattle.odata_listen.proofs.turns.go_round.Given as goal

-- the turns so far, and how many are left of them
abbrev pub invariant-loop-turn : goal.invariant-loop-turn
invariant-loop-turn l = record {
  turns : Turns l._turn l.fn.circle.heavy l.terms l.fn.circle.places l.fn.circle.next l.circle.next
      (served l.fn.server l.fn.log) (served l.server l.log);
  left : l.circle.left + l._turn ≡ left_of l.fn.circle.places l.fn.circle.left;
  places : l.circle.places ≡ l.fn.circle.places;
  kind : l.circle.heavy ≡ l.fn.circle.heavy;
}
