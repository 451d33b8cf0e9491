-- One column further: it fails, or those left decide.
use Rattle.std.proofs.Common.{sym}
use Rattle.std.proofs.lemmas.Result.{err_from_is_err_and}
use Rattle.csvw_meta.specs.Column.{column_conditions}
use Rattle.csvw_meta.proofs.RefusalLemmas.{conditions_from-failed, conditions_from-met}
use Rattle.csvw_meta.proofs.schema.check_columns.Goals as goal

pub returns-in_err-check_column : goal.returns-in_err-check_column
returns-in_err-check_column c =
    let p = err_from_is_err_and c.from_residual.result c.from_residual.ensures.1 in
    rw (p.1, p.2) (conditions_from-failed column_conditions c.args.columns.now c.loop-i.i c.index-columns-i.result _ c.loop-i-test.true (sym c.index-columns-i.is) c.loop-i.invariant c.in_err-check_column.ensures)

pub loop-i-preserved : goal.loop-i-preserved
loop-i-preserved c =
    conditions_from-met column_conditions c.args.columns.now c.loop-i.i c.index-columns-i.result c.loop-i-test.true (sym c.index-columns-i.is) c.loop-i.invariant c.in_ok-check_column.ensures
