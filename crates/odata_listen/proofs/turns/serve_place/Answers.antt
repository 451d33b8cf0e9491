use Rattle.odata_listen.specs.Turns.{served}
use Rattle.odata_listen.proofs.TurnLemmas.{ends_turn, has_end, has_visits}
use Rattle.odata_listen.proofs.turns.serve_place.Goals as goal

pub returns-then-is_lost : goal.returns-then-is_lost
returns-then-is_lost c =
    has_end _ _ c.is_awake.result c.is_lost.result _ _ _ _ c.is_awake.ensures c.if-not-is_awake.false c.is_lost.ensures c.if-is_lost.true c.end.ensures.frees
    c.end.ensures.work

pub returns : goal.returns
returns c =
    let visited = served c.visit_on-more.new.server c.visit_on-more.new.log in
    has_visits _ _ c.is_awake.result c.is_lost.result _ _ _ visited _ c.is_awake.ensures c.if-not-is_awake.false c.is_lost.ensures c.if-is_lost.false
    c.visit_on-more.ensures (ends_turn visited c.end_turn.new.self c.end_turn.ensures)
