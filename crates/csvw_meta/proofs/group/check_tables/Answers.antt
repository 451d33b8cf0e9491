-- One table further: it fails, or those left decide.
use Rattle.std.proofs.Common.{sym}
use Rattle.std.proofs.lemmas.Result.{err_from_is_err_and}
use Rattle.serde_json.specs.View.{view}
use Rattle.csvw_meta.specs.Limits.{limits_view}
use Rattle.csvw_meta.specs.Table.{table_conditions}
use Rattle.csvw_meta.proofs.RefusalLemmas.{conditions_from-failed, conditions_from-met}
use Rattle.csvw_meta.proofs.group.check_tables.Goals as goal

pub returns-in_err-check_table : goal.returns-in_err-check_table
returns-in_err-check_table c =
    let p = err_from_is_err_and c.from_residual.result c.from_residual.ensures.1 in
    rw (p.1, p.2) (conditions_from-failed (table_conditions (limits_view c.args.limits.now) (view c.args.group.now)) c.args.tables.now c.loop-i.i c.index-tables-i.result _ c.loop-i-test.true (sym c.index-tables-i.is) c.loop-i.invariant c.in_err-check_table.ensures)

pub loop-i-preserved : goal.loop-i-preserved
loop-i-preserved c =
    conditions_from-met (table_conditions (limits_view c.args.limits.now) (view c.args.group.now)) c.args.tables.now c.loop-i.i c.index-tables-i.result c.loop-i-test.true (sym c.index-tables-i.is) c.loop-i.invariant c.in_ok-check_table.ensures
