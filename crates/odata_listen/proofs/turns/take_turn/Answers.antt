use Rattle.odata_listen.proofs.TurnLemmas.{has_none, has_turn}
use Rattle.odata_listen.proofs.turns.take_turn.Goals as goal

pub returns-then-is_heavy-circle-clause-turn : goal.returns-then-is_heavy-circle-clause-turn
returns-then-is_heavy-circle-clause-turn c = has_none _ _ _ _ _ _ c.is_heavy.ensures c.if-is_heavy-circle.true c.turn_at-place.ensures.turn

pub returns-clause-turn : goal.returns-clause-turn
returns-clause-turn c = has_turn _ _ _ _ _ _ _ c.is_heavy.ensures c.if-is_heavy-circle.false c.serve_place.ensures c.turn_at-place.ensures.turn
