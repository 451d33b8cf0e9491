use Rattle.std.proofs.Common.{sym, arith}
use Rattle.reply_values.specs.Printed.{needs_more}
use Rattle.reply_values.proofs.BlockLemmas.{first_at_last, first_here, first_later, first_within}
use Rattle.reply_values.specs.contracts.runs.run_len_by.{JSON-type}
use denote.Param.{number}
use Rattle.reply_values.proofs.runs.run_len_by.Goals as goal

pub returns-then-run : goal.returns-then-run
returns-then-run o c = sym (first_here (needs_more (JSON-type (number o.row.JSON) (number o.row.N))) c.args.text.now _ _ _ c.loop-at.invariant c.run_in-run.ensures c.if-run.true)

pub loop-at-preserved : goal.loop-at-preserved
loop-at-preserved o c = first_later (needs_more (JSON-type (number o.row.JSON) (number o.row.N))) c.args.text.now _ _ _ c.loop-at.invariant c.run_in-run.ensures c.if-run.false

pub overflow_add-result-2 : goal.overflow_add-result-2
overflow_add-result-2 o c =
    let p = needs_more (JSON-type (number o.row.JSON) (number o.row.N)) in
    let text = c.args.text.now in
    let first = first_at_last p text _ _ _ (omega (arith, c.loop-at.invariant, c.loop-at-test.false)) c.run_in.ensures (omega (arith, c.requires.block)) in
    omega (arith, first, first_within p text)

pub returns : goal.returns
returns o c =
    sym (first_at_last (needs_more (JSON-type (number o.row.JSON) (number o.row.N))) c.args.text.now _ _ _ (omega (arith, c.loop-at.invariant, c.loop-at-test.false)) c.run_in.ensures (omega (arith, c.requires.block)))
