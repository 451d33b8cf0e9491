-- The columns so far meet their conditions, so those left decide.
use Rattle.std.proofs.Common.{◌≡◌}
use Rattle.csvw_meta.specs.Refusal.{first_cause}
use Rattle.csvw_meta.specs.Column.{column_conditions}
use Rattle.csvw_meta.proofs.RefusalLemmas.{conditions_from}
use Rattle.csvw_meta.proofs.schema.check_columns.Given as goal

abbrev pub invariant-loop-i : goal.invariant-loop-i
invariant-loop-i l = first_cause (conditions_from column_conditions l.columns 0) ≡ first_cause (conditions_from column_conditions l.columns l.i)
