use Rattle.std.proofs.Common.{arith, refl}
use Rattle.odata_listen.specs.Turns.{served}
use Rattle.odata_listen.proofs.TurnLemmas.{heavy_after, heavy_not_yet}
use Rattle.odata_listen.proofs.turns.run_round.Goals as goal

pub returns-then-circles-gt0 : goal.returns-then-circles-gt0
returns-then-circles-gt0 c = record {
  round = record {
    mid = served c.go_round.new.server c.go_round.new.log;
    light = c.go_round.ensures;
    heavy = heavy_not_yet c.go_round.new.circle.left _ _ (omega arith) (refl, refl);
  };
  whole = λ no. absurd (cc no);
}

pub returns-then-not-was_whole : goal.returns-then-not-was_whole
returns-then-not-was_whole c = record {
  round = record {
    mid = served c.go_round.new.server c.go_round.new.log;
    light = c.go_round.ensures;
    heavy = heavy_after c.go_round.new.circle.left _ _ (omega arith) c.go_round-2.ensures;
  };
  whole = λ no. absurd (cc no);
}

pub returns : goal.returns
returns c = record {
  round = record {
    mid = served c.go_round.new.server c.go_round.new.log;
    light = c.go_round.ensures;
    heavy = heavy_after c.go_round.new.circle.left _ _ (omega arith) c.go_round-2.ensures;
  };
  whole = λ none. (c.is_whole-was_whole.ensures c.if-not-was_whole.false, c.has_more.ensures none);
}
