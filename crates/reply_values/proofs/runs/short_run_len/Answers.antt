use Rattle.std.proofs.Common.{sym, ◌∙◌, arith, below_more, length}
use Rattle.std.proofs.lemmas.List.Sums.{position_or_len_is}
use Rattle.reply_values.specs.Printed.{needs_more}
use Rattle.reply_values.specs.contracts.runs.short_run_len.{JSON-type}
use denote.Param.{number}
use Rattle.reply_values.proofs.runs.short_run_len.Goals as goal

pub returns-then-needs_more : goal.returns-then-needs_more
returns-then-needs_more g c =
    sym (position_or_len_is (needs_more (JSON-type (number g.row.JSON))) c.args.text.now c.loop-place.place 0 (omega arith) c.loop-place.invariant (λ inside. sym c.needs_more.ensures ∙ c.if-needs_more.true))

pub loop-place-preserved : goal.loop-place-preserved
loop-place-preserved g c = below_more _ _ c.loop-place.invariant (sym c.needs_more.ensures ∙ c.if-needs_more.false)

pub returns : goal.returns
returns g c =
    sym (position_or_len_is (needs_more (JSON-type (number g.row.JSON))) c.args.text.now (length c.args.text.now) 0 (omega arith)
    (λ k below. c.loop-place.invariant k (omega (arith, below, c.loop-place-test.false))) (λ inside. absurd (omega (arith, inside))))
