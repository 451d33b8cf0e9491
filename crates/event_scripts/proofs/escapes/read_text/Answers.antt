use Rattle.std.proofs.Common.{◌∙◌, sym}
use Rattle.event_scripts.proofs.TextLemmas.{is_nil, not_nil, read_all, read_bad, read_more}
use Rattle.event_scripts.proofs.escapes.read_text.Goals as goal

pub returns-in_default : goal.returns-in_default
returns-in_default c = read_bad c.loop-rest.invariant (not_nil c.loop-rest.rest.now (sym c.is_empty.ensures ∙ c.loop-rest-test.true)) c.in_default.ensures

pub loop-rest-preserved : goal.loop-rest-preserved
loop-rest-preserved c = rw c.in_ok-extend_from_slice.ensures.items (read_more c.in-Some.byte c.loop-rest.invariant c.in-Some.ensures)

pub returns : goal.returns
returns c = read_all c.loop-rest.invariant (is_nil c.loop-rest.rest.now (sym c.is_empty.ensures ∙ c.loop-rest-test.false))
