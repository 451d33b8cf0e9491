-- The tables so far meet their conditions, so those left decide.
use Rattle.std.proofs.Common.{◌≡◌}
use Rattle.serde_json.specs.View.{view}
use Rattle.csvw_meta.specs.Limits.{limits_view}
use Rattle.csvw_meta.specs.Refusal.{first_cause}
use Rattle.csvw_meta.specs.Table.{table_conditions}
use Rattle.csvw_meta.proofs.RefusalLemmas.{conditions_from}
use Rattle.csvw_meta.proofs.group.check_tables.Given as goal

abbrev pub invariant-loop-i : goal.invariant-loop-i
invariant-loop-i l = let conditions = table_conditions (limits_view l.limits) (view l.group) in
    first_cause (conditions_from conditions l.tables 0) ≡ first_cause (conditions_from conditions l.tables l.i)
