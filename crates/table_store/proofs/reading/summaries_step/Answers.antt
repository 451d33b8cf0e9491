use Rattle.std.proofs.Common.{ap, arith}
use Rattle.key_index.specs.declared.reading.KeyedRows.{KeyedRows}
use Rattle.table_store.proofs.StageLemmas.{all_of_rows, summaries_more}
use Rattle.table_store.proofs.reading.summaries_step.Goals as goal

pub step-requires-clause-columns : goal.step-requires-clause-columns
step-requires-clause-columns c = let r = c.requires.reads in all_of_rows r.0 r.1 c.args.rows.rows r.2.parts

pub returns-then-len-div_ceil-clause-goes_on : goal.returns-then-len-div_ceil-clause-goes_on
returns-then-len-div_ceil-clause-goes_on c = λ schema raws reads.
    let on = c.in_ok-rows.ensures in
    let more = on.more (omega (arith)) in
    (summaries_more schema raws c.args.rows c.in_ok-rows.rows reads on, omega (arith, more, on.few, ap (λ (r : KeyedRows). r.rows) on.rows))

pub returns-else-len-div_ceil-clause-goes_on : goal.returns-else-len-div_ceil-clause-goes_on
returns-else-len-div_ceil-clause-goes_on c = λ schema raws reads.
    let on = c.in_ok-rows.ensures in
    record { summarizes = summaries_more schema raws c.args.rows c.in_ok-rows.rows reads on; all = omega (arith, on.few) }
