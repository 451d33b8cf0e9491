use Rattle.odata_listen.specs.Turns.{served}
use Rattle.odata_listen.proofs.turns.visit.Goals as goal

pub returns : goal.returns
returns c = record {
  mid = c.visit.new.self;
  visit = c.visit.ensures.visit;
  charged = served c.charge.new.server c.charge.new.log;
  charge = c.charge.ensures;
  settled = served c.settle.new.server c.settle.new.log;
  settles = c.settle.ensures.settles;
  work = c.settle.ensures.work;
  ends = c.end_over.ensures.ends;
  still = c.end_over.ensures.work;
}
