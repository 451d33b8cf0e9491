use Rattle.std.proofs.Common.{refl, sym, ◌∙◌}
use Rattle.odata_listen.proofs.endings.end_over.Goals as goal

pub returns-then-not-are_passed-clause-ends : goal.returns-then-not-are_passed-clause-ends
returns-then-not-are_passed-clause-ends c = record {
  kept = c.kept.result;
  is = c.kept.ensures;
  ends = rw (sym c.are_passed.ensures ∙ c.if-not-are_passed.true) refl;
}

pub returns-clause-ends : goal.returns-clause-ends
returns-clause-ends c = record {
  kept = c.kept.result;
  is = c.kept.ensures;
  ends = rw (sym c.are_passed.ensures ∙ c.if-not-are_passed.false) c.end.ensures.frees;
}
