use Rattle.std.proofs.Common.{arith}
use Rattle.hub_scripts.proofs.ReplayLemmas.{played_fault, played_more, played_none}
use Rattle.hub_scripts.proofs.replay.play_lines.Goals as goal

pub loop-line-init : goal.loop-line-init
loop-line-init g c = record {
  played = λ start stands. played_none c.args.script.now start _ stands;
  few = omega arith;
}

pub returns-in-Err : goal.returns-in-Err
returns-in-Err g c = λ start stands.
    played_fault (c.loop-line.invariant.played start stands) c.in-Some.line.now c.in-Some.behind.now c.in-Some.ensures.line _ c.in-Err.fault c.in-Err.ensures

pub loop-line-preserved : goal.loop-line-preserved
loop-line-preserved g c = record {
  played = λ start stands.
      played_more (c.loop-line.invariant.played start stands) c.in-Some.line.now c.in-Some.behind.now c.in-Some.ensures.line _ c.in-Ok.ensures;
  few = omega (arith, c.loop-line.invariant.few, c.in-Some.ensures.shorter);
}
