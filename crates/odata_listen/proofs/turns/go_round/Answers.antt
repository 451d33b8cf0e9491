use Rattle.std.proofs.Common.{◌+◌, arith, refl, ◌∙◌}
use Rattle.odata_listen.proofs.TurnLemmas.{turns_more}
use Rattle.odata_listen.proofs.turns.go_round.Goals as goal

pub loop-turn-init : goal.loop-turn-init
loop-turn-init c = record { turns = (refl, refl); left = omega (arith, c.left_of-circle.ensures); places = refl; kind = refl }

pub loop-turn-preserved : goal.loop-turn-preserved
loop-turn-preserved c =
    let before = c.loop-turn.invariant in
    let turn = c.take_turn.ensures in
    record {
      turns = turns_more _ _ _ _ _ _ _ _ _ _ _ _ before.turns before.kind before.places turn.turn turn.circle.next;
      left = omega (arith, before.left, turn.circle.left);
      places = turn.circle.places ∙ before.places;
      kind = turn.circle.kind ∙ before.kind;
    }

pub returns-then-is_over : goal.returns-then-is_over
returns-then-is_over c =
    let before = c.loop-turn.invariant in
    let turn = c.take_turn.ensures in
    record {
      turns = c.loop-turn._turn + 1;
      are = turns_more _ _ _ _ _ _ _ _ _ _ _ _ before.turns before.kind before.places turn.turn turn.circle.next;
      left = omega (arith, before.left, turn.circle.left);
      places = turn.circle.places ∙ before.places;
      kind = turn.circle.kind ∙ before.kind;
    }

pub returns : goal.returns
returns c = record {
  turns = c.loop-turn._turn;
  are = c.loop-turn.invariant.turns;
  left = c.loop-turn.invariant.left;
  places = c.loop-turn.invariant.places;
  kind = c.loop-turn.invariant.kind;
}
