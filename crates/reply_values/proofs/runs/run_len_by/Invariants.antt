use Rattle.std.proofs.Common.{◌-◌, ◌≤◌}
use Rattle.std.specs.List.{position_or_len}
use Rattle.reply_values.specs.Printed.{needs_more}
use Rattle.reply_values.specs.contracts.runs.run_len_by.{JSON-type}
use denote.Param.{number}
use Rattle.reply_values.proofs.runs.run_len_by.Given as goal

abbrev pub invariant-loop-at : goal.invariant-loop-at
invariant-loop-at o l = l.at ≤ position_or_len (needs_more (JSON-type (number o.row.JSON) (number o.row.N))) l.text

abbrev pub decreases-loop-at : goal.decreases-loop-at
decreases-loop-at o l = l.last - l.at
